use Rattle.verify.proofs.Words.{subst, IsPosition}
use Rattle.verify.proofs.LabelTableLemmas.{nothing}
use Rattle.verify.proofs.label_table.entry_of.Goals as goal

pub returns-in-Nothing : goal.returns-in-Nothing
returns-in-Nothing c = λ label is.
    let carries = subst (IsPosition c.args.frames.now.statements label) c.in-Some.is is in
    nothing c.args.frames.now.statements c.args.at c.in-Some.position carries.0 label c.requires.legal.once carries.1 c.in-Nothing.ensures
