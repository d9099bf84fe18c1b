-- What is written, and what the names that are left add, is the whole.
use Rattle.std.proofs.Common.{◌≡◌, ◌++◌, drop}
use Rattle.entry_rows.specs.EntryColumns.{names_text}
use Rattle.entry_rows.proofs.entry_columns.names_text.Given as goal

abbrev pub invariant-loop-name : goal.invariant-loop-name
invariant-loop-name l = l.text.items ++ names_text (drop l.name-index l.names) ≡ names_text l.names
