use Rattle.mm_read.proofs.OneReading.{one_reading, read_no_comment_fault, read_no_shape_fault}
use Rattle.read_pool.proofs.parts.read_in_parts.Goals as goal

pub returns-in-Some-clause-statements : goal.returns-in-Some-clause-statements
returns-in-Some-clause-statements g c = λ S reads. one_reading c.args.text.now c.in-Some.statements.items c.in-Some.ensures S reads

pub returns-in-Some-clause-comment_fault : goal.returns-in-Some-clause-comment_fault
returns-in-Some-clause-comment_fault g c = λ offset is. read_no_comment_fault c.args.text.now c.in-Some.statements.items c.in-Some.ensures offset is

pub returns-in-Some-clause-shape : goal.returns-in-Some-clause-shape
returns-in-Some-clause-shape g c = λ token has. read_no_shape_fault c.args.text.now c.in-Some.statements.items c.in-Some.ensures token has
