use Rattle.proof_code.proofs.Words.{arith}
use Rattle.proof_code.proofs.StepLemmas.{marks-at, mask-at}
use Rattle.proof_code.proofs.letter_numbers.LetterState.advance.Goals as goal

pub overflow_add-self : goal.overflow_add-self
overflow_add-self c = let is = marks-at c.args.byte c.from.result c.ranges.byte.fits c.from.ensures c.args.self.now.limit in omega (arith, is.1, c.requires)

pub returns-clause-limit : goal.returns-clause-limit
returns-clause-limit c = (marks-at c.args.byte c.from.result c.ranges.byte.fits c.from.ensures c.args.self.now.limit).0

pub returns-clause-digits : goal.returns-clause-digits
returns-clause-digits c = mask-at c.args.byte c.from.result c.ranges.byte.fits c.from.ensures c.args.value c.ranges.value.fits

pub returns-clause-within : goal.returns-clause-within
returns-clause-within c = (marks-at c.args.byte c.from.result c.ranges.byte.fits c.from.ensures c.args.self.now.limit).1
