use Rattle.rule_violation.proofs.Words.{sym, subst, IfOk, Stmt, G2, IsViolationIfBroken}
use Rattle.rule_violation.proofs.ViolationLemmas.{G2_twice}
use Rattle.rule_violation.proofs.by_rule.constants_violation.Goals as goal

pub returns-in_default-2 : goal.returns-in_default-2
returns-in_default-2 c =
    let S = c.args.earlier.now in
    let P : Stmt → Type 0 = λ s. IfOk c.first_repeated.result (IsViolationIfBroken S s G2) in
    subst P (sym c.in-Const.is) (G2_twice S c.in-Const.names c.first_repeated.result (rw c.in_default-2.is at c.in_ok-symbol_index.ensures) c.first_repeated.ensures)
