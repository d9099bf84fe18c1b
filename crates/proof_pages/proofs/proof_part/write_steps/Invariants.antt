use Rattle.proof_pages.proofs.Words.{◌++◌, take, concat_texts, IsWrittenThenBuffered}
use Rattle.proof_pages.specs.TableRows.{step_html}
use Rattle.proof_pages.proofs.proof_part.write_steps.Given as goal

abbrev pub invariant-loop-index : goal.invariant-loop-index
invariant-loop-index g l =
    IsWrittenThenBuffered (g.W.Write.contents l.initial.out) (g.W.Write.contents l.out) l.page.items
    (l.initial.page.items ++ concat_texts (step_html l.notation.is_linked l.notation.statements.now l.notation.frames.now.names l.notation.css_classes.now.by_symbol.items l.id_prefix) 0 (take l.index l.table))
