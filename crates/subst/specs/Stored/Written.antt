-- Symbols written after others in a buffer with room to spare.
-- Metamath, 4.2.6: a result is added to the others.
-- The code writes many symbols at once, so some after the end are overwritten; those do not count.
use Rattle.std.specs.Prelude.{◌≡◌, ℕ, ◌+◌, ◌<◌, ◌≤◌, Bool, true, false, List, ◌++◌, length, take}

-- e is written after the first `at` symbols, up to `end`
pub record IsWritten (old new : List ℕ) (at : ℕ) (e : List ℕ) (end : ℕ) : Type 0 where
  pub written : take end new ≡ take at old ++ e
  pub moved : end ≡ at + length e
  pub inside : end ≤ length new

-- after the first `at` of n symbols there is no room for e, for `more` symbols and for 16 others
abbrev pub LacksRoom : ℕ → ℕ → ℕ → List ℕ → Type 0
LacksRoom n at more e = n < at + length e + more + 16

-- e is appended, or is longer than the limit and nothing changes
abbrev pub Appends : Bool → ℕ → List ℕ → List ℕ → List ℕ → Type 0
Appends true limit old new e = (new ≡ old ++ e) × (length e ≤ limit)
Appends false limit old new e = (new ≡ old) × (limit < length e)
