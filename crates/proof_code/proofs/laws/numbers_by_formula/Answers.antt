use Rattle.proof_code.proofs.LettersLemmas.{number_of-placed, placed-number_of}
use Rattle.proof_code.proofs.laws.numbers_by_formula.Goals as goal

pub returns : goal.returns
returns c = λ word n. (number_of-placed word n, placed-number_of word n)
