-- Decimal numbers, as a script and a command line write them.
-- Source: positional notation; leading zeros are allowed, a sign is not.
-- The code stops at the first digit at which the value no longer fits; here all digits are read.
use Rattle.std.specs.Prelude.{ℕ, ◌+◌, ◌-◌, ◌*◌, ◌^◌, nat_lt, List, [], ◌∷◌, Option, Some, None, if◌then◌else◌}
use Rattle.std.specs.Char.{is_ascii_digit}

-- the number whose digits are those of `value` and then these, if it is below 2^64; the digit 0 is
-- byte 48
abbrev pub number_from : ℕ → List ℕ → Option ℕ
number_from value [] = if nat_lt value (2 ^ 64) then Some value else None
number_from value (c ∷ cs) = if is_ascii_digit c then number_from (value * 10 + (c - 48)) cs else None

-- the value of a word, if the word is one or more digits and nothing else, and the value is below
-- 2^64
abbrev pub number_of : List ℕ → Option ℕ
number_of [] = None
number_of (c ∷ cs) = number_from 0 (c ∷ cs)
