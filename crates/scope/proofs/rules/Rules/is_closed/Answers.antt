use Rattle.scope.proofs.Words.{◌≡◌, ◌∙◌, ap, sym, ◌==◌, not, nat_lt, length, rules, vec_len, [], is_closed, count, is_open, is_close}
use Rattle.scope.proofs.ActiveLemmas.{left_open}
use Rattle.scope.proofs.BlocksLemmas.{length-blocks, closed-left, open-left_open}
use Rattle.scope.proofs.rules.Rules.is_closed.Goals as goal

blocks_left : (c : goal.After-is_empty) → c.is_empty.result ≡ (left_open c.self.inside.accepted.statements == 0)
blocks_left c =
    let S = c.self.inside.accepted.statements in
    let size : vec_len c.self.inside.blocks ≡ length c.self.inside.blocks.items = search rules in
    c.is_empty.ensures ∙ ap (λ n. n == 0) (size ∙ (ap length c.self.invariant.blocks_are ∙ length-blocks [] 1 S))

pub returns-clause-closed : goal.returns-clause-closed
returns-clause-closed c =
    blocks_left c ∙ (sym (closed-left c.self.inside.accepted.statements c.self.invariant.never_closes_unopened) ∙ ap (λ v. is_closed v.statements) c.self.view_is)

pub returns-clause-open : goal.returns-clause-open
returns-clause-open c =
    ap (λ v. nat_lt (count is_close v.statements) (count is_open v.statements)) (sym c.self.view_is)
    ∙ (open-left_open c.self.inside.accepted.statements c.self.invariant.never_closes_unopened ∙ ap not (sym (blocks_left c)))
