-- Where a text may be cut.
-- Source: Metamath, 4.1.1 (tokens are separated by white space).
-- The code looks for the end of a statement; here any offset that no word crosses is a cut.
use Rattle.std.specs.Prelude.{ℕ, ◌≤◌, IsTrue, List, length, drop}
use Rattle.mm_lex.specs.Alphabet.{is_empty_or_starts_white}

-- the byte at the offset is white, or the text ends there
abbrev pub IsCut : List ℕ → ℕ → Type 0
IsCut text at = (at ≤ length text) × IsTrue (is_empty_or_starts_white (drop at text))
