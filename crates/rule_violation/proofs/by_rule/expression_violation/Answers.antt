use Rattle.rule_violation.proofs.Words.{[], ◌∷◌, ap, expr_of}
use Rattle.rule_violation.proofs.ViolationLemmas.{G5_found, G5_is}
use Rattle.rule_violation.proofs.by_rule.expression_violation.Goals as goal

pub returns-in-Ess : goal.returns-in-Ess
returns-in-Ess c = G5_is c.args.earlier.now c.args.stmt.now c.in-Ess.expr c.faulty_symbol.result (ap expr_of c.in-Ess.is) c.faulty_symbol.ensures

pub returns-in-Axiom : goal.returns-in-Axiom
returns-in-Axiom c = G5_is c.args.earlier.now c.args.stmt.now c.in-Axiom.expr c.faulty_symbol-in-Axiom.result (ap expr_of c.in-Axiom.is) c.faulty_symbol-in-Axiom.ensures

pub returns-in-Prove : goal.returns-in-Prove
returns-in-Prove c = G5_is c.args.earlier.now c.args.stmt.now c.in-Prove.expr c.faulty_symbol-in-Prove.result (ap expr_of c.in-Prove.is) c.faulty_symbol-in-Prove.ensures

pub returns-in-Float : goal.returns-in-Float
returns-in-Float c =
    G5_found c.args.earlier.now c.args.stmt.now (c.in-Float.constant ∷ c.in-Float.variable ∷ []) c.unknown_symbol.result (ap expr_of c.in-Float.is) c.unknown_symbol.ensures
