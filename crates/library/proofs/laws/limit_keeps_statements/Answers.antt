use Rattle.library.proofs.LimitLemmas.{limit_keeps_statements}
use Rattle.library.proofs.laws.limit_keeps_statements.Goals as goal

pub returns : goal.returns
returns c = limit_keeps_statements
