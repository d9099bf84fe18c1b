use Rattle.mm_read.proofs.ExportReads.{export_reads}
use Rattle.mm_read.proofs.laws.export_reads.Goals as goal

pub returns : goal.returns
returns c = export_reads
