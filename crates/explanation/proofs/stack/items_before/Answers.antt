use Rattle.std.proofs.Common.{subst}
use Rattle.std.specs.Prelude.{List, IfOk, MatchOption}
use Rattle.proof_code.specs.Writes.{Writes}
use Rattle.proof_code.specs.declared.item.Item.{Item}
use Rattle.explanation.specs.Fronts.{before_spot}
use Rattle.explanation.proofs.stack.items_before.Goals as goal

pub returns : goal.returns
returns c s provable =
    let front = before_spot c.args.proof.now c.args.spot.token c.args.spot.byte in
    subst (λ labels. IfOk c.items_of.result (λ found. MatchOption found ((other : List Item) → ¬ Writes front labels other) (λ items. Writes front labels items)))
    (c.in_ok-labels.ensures s provable)
    (subst (λ tokens. IfOk c.items_of.result (λ found. MatchOption found ((other : List Item) → ¬ Writes tokens c.in_ok-labels.labels other) (λ items. Writes tokens c.in_ok-labels.labels items)))
    c.in_ok-tokens.ensures c.items_of.ensures)
