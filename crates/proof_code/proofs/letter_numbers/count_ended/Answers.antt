use Rattle.proof_code.proofs.StepLemmas.{ends-at}
use Rattle.proof_code.proofs.letter_numbers.count_ended.Goals as goal

pub returns : goal.returns
returns c = ends-at c.args.byte c.from.result c.ranges.byte.fits c.from.ensures
