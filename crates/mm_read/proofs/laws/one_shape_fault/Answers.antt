use Rattle.mm_read.proofs.ShapeFaults.{one_shape_fault}
use Rattle.mm_read.proofs.laws.one_shape_fault.Goals as goal

pub returns : goal.returns
returns c = one_shape_fault
