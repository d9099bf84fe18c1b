use Rattle.proof_code.proofs.Words.{arith}
use Rattle.proof_code.proofs.StepLemmas.{value-at}
use Rattle.proof_code.proofs.letter_numbers.value_after.Goals as goal

pub overflow_add-result : goal.overflow_add-result
overflow_add-result c = let is = value-at c.args.byte c.from.result c.ranges.byte.fits c.from.ensures c.args.digits c.requires in omega (arith, is)

pub returns : goal.returns
returns c = (value-at c.args.byte c.from.result c.ranges.byte.fits c.from.ensures c.args.digits c.requires).0
