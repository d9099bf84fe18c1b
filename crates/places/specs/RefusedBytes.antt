-- The text that is read if a text has bytes that are not allowed: each counts as a space.
-- Source: Metamath, 4.1.1 (the bytes of a text); that the rest is read is this project's choice.
use Rattle.std.specs.Prelude.{ℕ, ◌+◌, Bool, true, false, if◌then◌else◌, List, [], ◌∷◌, ◌++◌}
use Rattle.mm_lex.specs.Alphabet.{is_allowed}

-- the byte, or a space for one that is not allowed
abbrev pub readable_byte : ℕ → ℕ
readable_byte b = if is_allowed b then b else 32

-- where runs of bytes that are not allowed begin, in bytes that begin at the offset `at`; `inside`
-- is whether the byte before them is not allowed
abbrev pub refused_runs : ℕ → Bool → List ℕ → List ℕ
refused_runs at inside [] = []
refused_runs at inside (b ∷ bytes) =
    if is_allowed b then refused_runs (at + 1) false bytes else if inside then refused_runs (at + 1) true bytes else at ∷ refused_runs (at + 1) true bytes

-- the offsets, with that of one more byte if a run begins there; for a private function
abbrev pub with_run : List ℕ → ℕ → Bool → Bool → List ℕ
with_run offsets at inside refused = if refused then (if inside then offsets else offsets ++ at ∷ []) else offsets
