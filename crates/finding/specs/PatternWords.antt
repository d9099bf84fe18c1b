-- The words of a text, an argument of a command line: its runs of bytes that are not white space.
-- Source: this project's command lines.
-- The code goes from one run to the next.
use Rattle.std.specs.Prelude.{ℕ, List, map}
use Rattle.mm_lex.specs.Alphabet.{Name, runs, word}
use Rattle.mm_lex.specs.Comments.{runs_after}

-- the words of a text
abbrev pub words_in : List ℕ → List Name
words_in text = map (word text) (runs text)

-- the words that begin at or after an offset
abbrev pub words_after : List ℕ → ℕ → List Name
words_after text at = map (word text) (runs_after text at)
