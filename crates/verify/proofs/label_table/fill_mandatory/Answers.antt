use Rattle.verify.proofs.Words.{arith, map, ap, ◌∙◌, take_all}
use Rattle.verify.specs.declared.label_table.LabelEntry.TheVariants.{Hypothesis}
use Rattle.verify.proofs.MandatoryEntries.{mandatory-entries}
use Rattle.verify.proofs.label_table.fill_mandatory.Goals as goal

pub returns-clause-entries : goal.returns-clause-entries
returns-clause-entries c = λ s provable.
    mandatory-entries c.args.frames.now.statements c.args.at s c.as_slice-position-items.result.now c.loop-position.table.items provable
    (c.as_slice-position-items.ensures.value ∙ c.in_ok-mandatory.ensures.listed s provable.stands)
    (c.loop-position.invariant ∙ ap (map Hypothesis) (take_all c.loop-position.position-index c.as_slice-position-items.result.now (let over = c.loop-position-test.false in omega (arith, over))))
