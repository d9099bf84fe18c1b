use Rattle.library.proofs.Words.{sym, ◌∙◌, ap, arith, drop_all, mark_items}
use Rattle.library.proofs.UseMarkLemmas.{marks-items}
use Rattle.library.proofs.axioms_used.mark_cited.Goals as goal

pub returns : goal.returns
returns c =
    marks-items c.args.frames.now.statements c.parts-parts.result.labels.now c.in_ok-label_positions.label_positions.items c.in_ok-label_positions.ensures.found c.requires.once c.parts-parts.result.numbers.now c.args.items c.args.marks.now c.loop-number.marks c.parts-parts.ensures
    (sym (ap (λ ns. mark_items c.in_ok-label_positions.label_positions.items ns c.loop-number.marks) (drop_all c.loop-number.number-index c.parts-parts.result.numbers.now (omega (arith, c.loop-number-test.false)))) ∙ c.loop-number.invariant)
