use Rattle.mm_read.proofs.ShapeFaults.{statements_or_fault}
use Rattle.mm_read.proofs.laws.statements_or_fault.Goals as goal

pub returns : goal.returns
returns c = statements_or_fault
