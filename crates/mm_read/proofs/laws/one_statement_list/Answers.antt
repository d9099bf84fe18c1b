use Rattle.mm_read.proofs.OneStatementList.{one_statement_list}
use Rattle.mm_read.proofs.laws.one_statement_list.Goals as goal

pub returns : goal.returns
returns c = one_statement_list
