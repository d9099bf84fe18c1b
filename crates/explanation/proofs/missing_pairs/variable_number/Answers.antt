use Rattle.explanation.proofs.PairLemmas.{number_within}
use Rattle.explanation.proofs.missing_pairs.variable_number.Goals as goal

pub variable-requires : goal.variable-requires
variable-requires c = number_within c.args.pairs.now.names _ c.in-Some.number c.in-Some.ensures.number

pub returns-then-variable-clause-number : goal.returns-then-variable-clause-number
returns-then-variable-clause-number c = number_within c.args.pairs.now.names _ c.in-Some.number c.in-Some.ensures.number
