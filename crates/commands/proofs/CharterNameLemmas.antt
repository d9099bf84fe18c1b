-- The names of a charter, read one number at a time.
use Rattle.commands.proofs.Words.{ℕ, ◌+◌, Bool, false, ◌&&◌, nat_lt, List, ◌∷◌, length, Option, Some, None, MAX_NAMES, is_rising, Words, numbers_of}

-- the numbers rise, from the last number before them on
abbrev pub rising_after : Option ℕ → List ℕ → Bool
rising_after None numbers = is_rising numbers
rising_after (Some last) numbers = is_rising (last ∷ numbers)

abbrev pub passes_after : ℕ → Option ℕ → Option (List ℕ) → Bool
passes_after count last None = false
passes_after count last (Some numbers) = nat_lt 0 (count + length numbers) && nat_lt (count + length numbers) (MAX_NAMES + 1) && rising_after last numbers

-- the words are the rest of the names of a charter, after `count` numbers of which the last is
-- given
abbrev pub are_names_after : ℕ → Option ℕ → Words → Bool
are_names_after count last ws = passes_after count last (numbers_of ws)
