-- What the mandatory hypotheses of an assertion add to its size, by the entries.
-- Internal to the code: no public clause cites it.
-- Source: this project's profile (docs/COSTS.md).
-- The code goes over the positions of the hypotheses, a `$f` by its variable.
use Rattle.std.specs.Prelude.{◌≡◌, ℕ, ◌-◌, true, List, length, get_or, slice_get, Option, Some, None}
use Rattle.frame.specs.Words.{Stmt, Database, is_assertion, Kind, Float, Entry}
use Rattle.frame.specs.Parts.{Numbered}
use Rattle.frame.specs.Sizes.{assertion_size}
use Rattle.frame.specs.NumberedWork.{numbered_row}
use Rattle.frame.specs.Stored.EntryMeanings.{names_in}
use Rattle.frame.specs.declared.storage.Storage.{Storage}

-- the row of the variable of a `$f`, or the length of a `$e`
abbrev pub size_by : Numbered → Kind → List ℕ → ℕ
size_by v Float codes = numbered_row v (get_or codes 1 0)
size_by v kind codes = length codes

-- this for an entry, if there is one
abbrev pub entry_size : Numbered → Option Entry → ℕ
entry_size v None = 0
entry_size v (Some e) = size_by v e.kind e.symbols

-- this for the entry at a position, by the `$d` that are active after the statements T
abbrev pub listed_size : Storage → Database → ℕ → ℕ
listed_size k T p = entry_size (record { statements = T; names = names_in k }) (slice_get k.entries (p - 1))

-- the number is the size of the statement s, which follows the statements S, if it is an assertion
pub record IsSizeOf (S : Database) (s : Stmt) (size : ℕ) : Type 0 where
  pub is : is_assertion s ≡ true → size ≡ assertion_size S s
