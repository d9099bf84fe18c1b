use Rattle.rule_violation.proofs.Words.{[], ◌∷◌, ap, refl, expr_of}
use Rattle.rule_violation.proofs.ViolationLemmas.{G6_is, first_is_not}
use Rattle.rule_violation.proofs.by_rule.typecode_violation.Goals as goal

pub returns-in-Float : goal.returns-in-Float
returns-in-Float c =
    G6_is c.args.earlier.now c.args.stmt.now (c.in-Float.constant ∷ c.in-Float.variable ∷ []) c.float_typecode_violation.result (ap expr_of c.in-Float.is)
    (first_is_not c.args.earlier.now c.in-Float.constant (c.in-Float.constant ∷ c.in-Float.variable ∷ []) (c.in-Float.variable ∷ []) c.float_typecode_violation.result refl c.float_typecode_violation.ensures)

pub returns-in-Ess : goal.returns-in-Ess
returns-in-Ess c = G6_is c.args.earlier.now c.args.stmt.now c.in-Ess.expr c.first_not_constant.result (ap expr_of c.in-Ess.is) c.first_not_constant.ensures

pub returns-in-Axiom : goal.returns-in-Axiom
returns-in-Axiom c = G6_is c.args.earlier.now c.args.stmt.now c.in-Axiom.expr c.first_not_constant-in-Axiom.result (ap expr_of c.in-Axiom.is) c.first_not_constant-in-Axiom.ensures

pub returns-in-Prove : goal.returns-in-Prove
returns-in-Prove c = G6_is c.args.earlier.now c.args.stmt.now c.in-Prove.expr c.first_not_constant-in-Prove.result (ap expr_of c.in-Prove.is) c.first_not_constant-in-Prove.ensures
