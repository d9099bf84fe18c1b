use Rattle.mm_read.proofs.Words.{◌≡◌, ◌∙◌, ap, sym, subst, take_all, Reads, export_of}
use Rattle.mm_read.proofs.ExportReads.{export_reads}
use Rattle.mm_read.proofs.export.spell.Goals as goal

pub returns-clause-reads : goal.returns-clause-reads
returns-clause-reads c =
    let written : c.loop-statement.text.items ≡ export_of c.args.statements.now = c.loop-statement.invariant ∙ ap export_of (take_all _ c.args.statements.now c.loop-statement-test.false) in
    subst (λ text. Reads text c.args.statements.now) (sym written) (export_reads c.args.statements.now c.requires)
