-- What is read, and what the bytes that are left say, is the whole.
use Rattle.std.proofs.Common.{◌≡◌, ◌++◌, drop}
use Rattle.entry_rows.specs.EntryColumns.{numbers_read}
use Rattle.entry_rows.proofs.entry_columns.read_names.Given as goal

abbrev pub invariant-loop-byte : goal.invariant-loop-byte
invariant-loop-byte l = l.numbers.items ++ numbers_read l.value (drop l.byte-index l.text) ≡ numbers_read 0 l.text
