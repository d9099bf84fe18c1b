-- The key of a name, a number of 64 bits; names of at most seven bytes have different keys. No
-- public clause cites it.
use Rattle.std.specs.Prelude.{ℕ, zero, suc, ◌+◌, ◌-◌, ◌*◌, ◌/◌, ◌%◌, ◌^◌, ◌<◌, List, [], ◌∷◌, length, get_or, nat_lt, if◌then◌else◌}
use Rattle.std.specs.Int.{w64, swap_bytes}
use Rattle.mm_lex.specs.Alphabet.{Name}
use Rattle.names.specs.declared.keys.TheConstants.{LEAST_HASHED_LEN, LEAST_HASH, FACTOR}

abbrev pub AreBytes : List ℕ → Type 0
AreBytes bytes = (i : ℕ) → get_or bytes i 0 < 256

-- the number with these bytes as its digits, the lowest first
abbrev pub digits : List ℕ → ℕ
digits [] = 0
digits (byte ∷ bytes) = byte + 256 * digits bytes

-- the bytes of a name of at most three bytes, some of them repeated
abbrev pub first_middle_last : Name → List ℕ
first_middle_last x = get_or x 0 0 ∷ get_or x (length x / 2) 0 ∷ get_or x (length x - 1) 0 ∷ []

-- the bytes of a name of four to seven bytes, some of them twice
abbrev pub first_four_last_three : Name → List ℕ
first_four_last_three x =
    get_or x 0 0 ∷ get_or x 1 0 ∷ get_or x 2 0 ∷ get_or x 3 0
    ∷ get_or x (length x - 3) 0 ∷ get_or x (length x - 2) 0 ∷ get_or x (length x - 1) 0 ∷ []

-- the bytes from which the key of a short name is made
abbrev pub key_bytes : Name → List ℕ
key_bytes x = if nat_lt (length x) 4 then first_middle_last x else first_four_last_three x

-- the eight bytes from an index on
abbrev pub eight_bytes_from : Name → ℕ → List ℕ
eight_bytes_from x at =
    get_or x at 0 ∷ get_or x (at + 1) 0 ∷ get_or x (at + 2) 0 ∷ get_or x (at + 3) 0
    ∷ get_or x (at + 4) 0 ∷ get_or x (at + 5) 0 ∷ get_or x (at + 6) 0 ∷ get_or x (at + 7) 0 ∷ []

-- the product of `FACTOR` and the number, modulo 2^64, with its bytes in reverse order
abbrev pub scrambled : ℕ → ℕ
scrambled n = swap_bytes w64 (n * FACTOR % 2 ^ 64)

-- the hash with eight more bytes mixed in, which are given as one number
abbrev pub mixed : ℕ → ℕ → ℕ
mixed hash bytes = scrambled ((hash + bytes) % 2 ^ 64)

-- the length of a name, mixed with its first n blocks of eight bytes
abbrev pub mixed_front : Name → ℕ → ℕ
mixed_front x zero = length x
mixed_front x (suc n) = mixed (mixed_front x n) (digits (eight_bytes_from x (8 * n)))

-- the length of a name, mixed with all its blocks but the last, and with its last eight bytes; the
-- result is at least `LEAST_HASH`, above the keys of short names
unfoldable pub hash_of : Name → ℕ
hash_of x = mixed (mixed_front x ((length x - 1) / 8)) (digits (eight_bytes_from x (length x - 8))) % LEAST_HASH + LEAST_HASH

-- the key of a name: its bytes and its length if it is short, else its hash
abbrev pub key_of : Name → ℕ
key_of x = if nat_lt (length x) LEAST_HASHED_LEN then digits (key_bytes x) * 8 + length x else hash_of x
