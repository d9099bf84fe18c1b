use Rattle.scope.proofs.Words.{ap, sym, refl, arith, length, bare}
use Rattle.scope.proofs.FrameStatementLemmas.{frame_statements-fewer}
use Rattle.scope.proofs.AcceptLemmas.{same-kept, accept-plain, bare-plain}
use Rattle.scope.proofs.rules.Rules.accept_plain.Goals as goal

pub invariant_of-self : goal.invariant_of-self
invariant_of-self c =
    let a = c.self.inside in let S = a.accepted.statements in
    same-kept (sym c.after-self-inside.ensures) refl refl refl refl
    (accept-plain S a.marked.statements a.variables a.typed a.frame_statement_count a.blocks.items a.mark c.self.invariant (bare c.args.stmt.now) c.args.added (bare-plain c.args.stmt.now c.args.added c.requires.plain))

pub overflow_add-self : goal.overflow_add-self
overflow_add-self c =
    let few = frame_statements-fewer c.self.inside.accepted.statements in
    let is = c.self.invariant.frame_statement_count_is in
    let same = ap (λ v. length v.statements) c.self.view_is in
    let room = c.requires.room in let one = c.requires.one in
    omega (arith, few, is, same, room, one)
