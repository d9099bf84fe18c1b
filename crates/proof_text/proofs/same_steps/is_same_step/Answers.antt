use Rattle.std.proofs.Common.{◌≡◌, rules, true, sym, ◌∙◌, get_or, arith}
use Rattle.steps.specs.Rows.{no_row}
use Rattle.proof_text.proofs.StepsLemmas.{step-same}
use Rattle.proof_text.proofs.same_steps.is_same_step.Goals as goal

pub returns : goal.returns
returns c = λ same.
    let e : c.eq.result ≡ true → c.taken.result.now ≡ c.taken-2.result.now = search rules in
    let p : (get_or c.args.left.now c.args.place no_row).step.position ≡ (get_or c.args.right.now c.args.place no_row).step.position = omega arith in
    step-same _ _ p (sym c.taken.ensures ∙ (e same ∙ c.taken-2.ensures))
