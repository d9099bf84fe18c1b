use Rattle.rule_violation.proofs.Words.{sym, subst, IfOk, Stmt, G3, IsViolationIfBroken}
use Rattle.rule_violation.proofs.ViolationLemmas.{G3_twice}
use Rattle.rule_violation.proofs.by_rule.variables_violation.Goals as goal

pub returns-in_default-2 : goal.returns-in_default-2
returns-in_default-2 c =
    let S = c.args.earlier.now in
    let P : Stmt → Type 0 = λ s. IfOk c.first_repeated.result (IsViolationIfBroken S s G3) in
    subst P (sym c.in-Var.is) (G3_twice S c.in-Var.names c.first_repeated.result (rw c.in_default-2.is at c.in_ok-symbol_index.ensures) c.first_repeated.ensures)
