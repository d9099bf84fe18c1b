-- Words wrapped into lines of at most 78 bytes; a longer word has its own line.
-- Source: this project's command `show`.
-- The code goes from word to word.
use Rattle.std.specs.Prelude.{ℕ, Bool, ◌+◌, ◌==◌, nat_le, List, [], ◌∷◌, ◌++◌, length, codes, if◌then◌else◌}
use Rattle.mm_lex.specs.Alphabet.{Name}

-- a space and the word still fit into a line of `column` bytes
abbrev pub fits : ℕ → Name → Bool
fits column w = nat_le (column + 1 + length w) 78

-- the bytes before a word: none at the beginning of a line, a space if the word fits, else a line
-- feed
abbrev pub separator : ℕ → Name → List ℕ
separator column w = if column == 0 then [] else if fits column w then codes " " else codes "\n"

-- the number of bytes in the line after the word is appended
abbrev pub column_after : ℕ → Name → ℕ
column_after column w = if column == 0 then length w else if fits column w then column + 1 + length w else length w

-- the words, appended to a line that has `column` bytes already
abbrev pub wrapped_from : ℕ → List Name → List ℕ
wrapped_from column [] = if column == 0 then [] else codes "\n"
wrapped_from column (w ∷ ws) = separator column w ++ w ++ wrapped_from (column_after column w) ws

abbrev pub wrapped : List Name → List ℕ
wrapped ws = wrapped_from 0 ws
