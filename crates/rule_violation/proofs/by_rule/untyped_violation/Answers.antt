use Rattle.rule_violation.proofs.Words.{ap, typed_expr}
use Rattle.rule_violation.proofs.ViolationLemmas.{G9_is}
use Rattle.rule_violation.proofs.by_rule.untyped_violation.Goals as goal

pub returns-in-Ess : goal.returns-in-Ess
returns-in-Ess c = G9_is c.args.earlier.now c.args.stmt.now c.in-Ess.expr c.faulty_symbol.result (ap typed_expr c.in-Ess.is) c.faulty_symbol.ensures

pub returns-in-Axiom : goal.returns-in-Axiom
returns-in-Axiom c = G9_is c.args.earlier.now c.args.stmt.now c.in-Axiom.expr c.faulty_symbol-in-Axiom.result (ap typed_expr c.in-Axiom.is) c.faulty_symbol-in-Axiom.ensures

pub returns-in-Prove : goal.returns-in-Prove
returns-in-Prove c = G9_is c.args.earlier.now c.args.stmt.now c.in-Prove.expr c.faulty_symbol-in-Prove.result (ap typed_expr c.in-Prove.is) c.faulty_symbol-in-Prove.ensures
