use Rattle.std.proofs.Common.{arith, eq-eqb}
use Rattle.places.proofs.description.count_before_dollar.Goals as goal

pub returns-in-Some-clause-no_dollar : goal.returns-in-Some-clause-no_dollar
returns-in-Some-clause-no_dollar c = λ k before is. c.in-Some.ensures.0.before k (omega arith) before (eq-eqb _ _ is)

pub returns-in-None-clause-no_dollar : goal.returns-in-None-clause-no_dollar
returns-in-None-clause-no_dollar c = λ k before is. c.in-None.ensures k (omega arith) before (eq-eqb _ _ is)
