use Rattle.rule_violation.proofs.Words.{ap, label_of}
use Rattle.rule_violation.proofs.ViolationLemmas.{G4_is}
use Rattle.rule_violation.proofs.by_rule.label_violation.Goals as goal

pub returns-in-Float : goal.returns-in-Float
returns-in-Float c = G4_is c.args.earlier.now c.args.stmt.now c.in-Float.label c.label_conflict.result (ap label_of c.in-Float.is) c.label_conflict.ensures

pub returns-in-Ess : goal.returns-in-Ess
returns-in-Ess c = G4_is c.args.earlier.now c.args.stmt.now c.in-Ess.label c.label_conflict-in-Ess.result (ap label_of c.in-Ess.is) c.label_conflict-in-Ess.ensures

pub returns-in-Axiom : goal.returns-in-Axiom
returns-in-Axiom c = G4_is c.args.earlier.now c.args.stmt.now c.in-Axiom.label c.label_conflict-in-Axiom.result (ap label_of c.in-Axiom.is) c.label_conflict-in-Axiom.ensures

pub returns-in-Prove : goal.returns-in-Prove
returns-in-Prove c = G4_is c.args.earlier.now c.args.stmt.now c.in-Prove.label c.label_conflict-in-Prove.result (ap label_of c.in-Prove.is) c.label_conflict-in-Prove.ensures
