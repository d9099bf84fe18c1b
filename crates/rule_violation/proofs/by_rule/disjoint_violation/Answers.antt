use Rattle.rule_violation.proofs.Words.{sym, subst, IfOk, Stmt, G8, IsViolationIfBroken}
use Rattle.rule_violation.proofs.ViolationLemmas.{G8_twice}
use Rattle.rule_violation.proofs.by_rule.disjoint_violation.Goals as goal

pub returns-in-None : goal.returns-in-None
returns-in-None c =
    let S = c.args.earlier.now in
    let P : Stmt → Type 0 = λ s. IfOk c.first_repeated.result (IsViolationIfBroken S s G8) in
    subst P (sym c.in-Disj.is) (G8_twice S c.in-Disj.names c.first_repeated.result (rw c.in-None.is at c.in_ok-violation.ensures) c.first_repeated.ensures)
