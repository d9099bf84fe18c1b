use Rattle.proof_code.proofs.OneList.{one_list}
use Rattle.proof_code.proofs.laws.one_list_of_items.Goals as goal

pub returns : goal.returns
returns c = one_list
