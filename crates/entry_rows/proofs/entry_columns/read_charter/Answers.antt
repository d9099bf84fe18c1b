use Rattle.std.proofs.Common.{List, Option, Some, ap, subst, sym, ℕ, ◌∙◌}
use Rattle.library.specs.Charters.{AreNames}
use Rattle.library.specs.declared.entry.Entry.{Entry}
use Rattle.library.specs.declared.entry.Entry.TheVariants.{Charter}
use Rattle.sqlite_value.specs.Order.{column}
use Rattle.entry_rows.proofs.EntryLemmas.{numbers_are}
use Rattle.entry_rows.proofs.entry_columns.read_charter.Goals as goal

pub returns-in_default-new : goal.returns-in_default-new
returns-in_default-new c names are small there =
    let same = numbers_are (column c.args.row.now 5) c.in-Text.text.now c.in_ok-read_names.field-0.items names c.in-Text.ensures there c.in_ok-read_names.ensures small in
    absurd (c.in_default-new.ensures (subst AreNames (sym same) are))

pub returns : goal.returns
returns c names are small there =
    let same = numbers_are (column c.args.row.now 5) c.in-Text.text.now c.in_ok-read_names.field-0.items names c.in-Text.ensures there c.in_ok-read_names.ensures small in
    ap (λ (n : List ℕ). let o : Option Entry = Some (Charter c.args.author c.args.serial n) in o) (c.in-Some.ensures ∙ same)
