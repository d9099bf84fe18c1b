-- A prefix of a text in which single spaces separate symbols; a single space may precede the first,
-- and the last may be only the beginning of a token.
-- Source: this project's choice; such symbols are copied at once.
-- The code compares many bytes at a time; the definition one byte and the next.
use Rattle.std.specs.Prelude.{ℕ, zero, suc, Bool, true, ◌||◌, ◌&&◌, ◌==◌, if◌then◌else◌, List, [], ◌∷◌, nat_lt, nat_le}
use Rattle.std.specs.Simd.Lanes.{zip2}

-- whether the prefix ends at the byte b, which `next` follows: b is below the space (32), is a `$`
-- (36), or is a space and `next` is at most `$`
abbrev pub ends_between : ℕ → ℕ → Bool
ends_between b next = nat_lt b 32 || (b == 36) || (nat_le b 32 && nat_le next 36)

-- whether the prefix ends at the first byte; the last byte counts as followed by a space
abbrev pub ends_here : List ℕ → Bool
ends_here [] = true
ends_here (b ∷ []) = ends_between b 32
ends_here (b ∷ c ∷ bytes) = ends_between b c

-- the number of bytes before the end of the prefix
abbrev pub spaced_prefix_len : List ℕ → ℕ
spaced_prefix_len [] = zero
spaced_prefix_len (b ∷ bytes) = if ends_here (b ∷ bytes) then zero else suc (spaced_prefix_len bytes)

-- for each of these bytes and the one after it, whether the prefix ends at the former
abbrev pub lanes_end : List ℕ → List ℕ → List Bool
lanes_end bytes next = zip2 ends_between bytes next
