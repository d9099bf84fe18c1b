use Rattle.std.specs.Prelude.{◌≡◌, get_or}
use Rattle.steps.specs.Rows.{no_row}
use Rattle.proof_pages.specs.Colours.{page_classes_of_first, page_classes_view}
use Rattle.proof_pages.proofs.css_classes.CssClasses.record_steps.Given as goal

abbrev pub invariant-loop-index : goal.invariant-loop-index
invariant-loop-index l =
    page_classes_view l.self
    ≡ page_classes_of_first l.contents.typecodes.now l.contents.frames.now.names l.contents.statements.now l.contents.frames.now.statements (λ i. (get_or l.table i no_row).step.position) (page_classes_view l.initial.self) l.index
