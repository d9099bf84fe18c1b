use Rattle.mm_read.proofs.JoinedReads.{joined_reads}
use Rattle.mm_read.proofs.laws.joined_reads.Goals as goal

pub returns : goal.returns
returns c = joined_reads
