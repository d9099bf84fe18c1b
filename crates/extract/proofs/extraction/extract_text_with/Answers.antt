use Rattle.extract.proofs.ExtractLemmas.{extract-of-part, extract-of-whole}
use Rattle.extract.proofs.extraction.extract_text_with.Goals as goal

pub returns-then-branch : goal.returns-then-branch
returns-then-branch c =
    extract-of-part (λ text. text.items) c.args.library.now.replica.statements _ _ _ _ c.export.result c.statements.ensures.statements c.statements-2.ensures.statements c.requires
    c.statements-2.ensures.good (c.in_ok-is_confirmed_part.ensures.part c.if-branch.true) (c.in_ok-is_confirmed_part.ensures.assertions c.if-branch.true) c.export.ensures.text c.export.ensures.reads

pub returns-else-branch : goal.returns-else-branch
returns-else-branch c = extract-of-whole (λ text. text.items) c.args.library.now.replica.statements _ c.export-else-branch.result c.requires c.statements.ensures.good c.export-else-branch.ensures.text c.export-else-branch.ensures.reads
