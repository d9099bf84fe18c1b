use Rattle.verify_pool.proofs.FirstWrongLemmas.{one_answer}
use Rattle.verify_pool.proofs.laws.one_answer.Goals as goal

pub returns : goal.returns
returns c = one_answer
