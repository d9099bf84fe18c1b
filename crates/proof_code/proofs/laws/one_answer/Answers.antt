use Rattle.proof_code.proofs.OneList.{one_answer}
use Rattle.proof_code.proofs.laws.one_answer.Goals as goal

pub returns : goal.returns
returns c = one_answer
