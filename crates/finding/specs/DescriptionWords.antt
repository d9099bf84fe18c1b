-- Words that a description contains, ignoring ASCII case.
-- Source: this project's command `find --words`.
-- The code compares the word with the bytes at each offset.
use Rattle.std.specs.Prelude.{◌≡◌, ℕ, List, ◌++◌}
use Rattle.std.specs.List.{AllByRecursion}
use Rattle.std.specs.Str.{str_to_ascii_lowercase}
use Rattle.mm_lex.specs.Alphabet.{Name}

-- the text contains the word, also inside a longer word, ignoring ASCII case
pub record HasWord (text : List ℕ) (w : Name) : Type 0 where
  pub before : List ℕ
  pub slice : List ℕ
  pub after : List ℕ
  pub whole : text ≡ before ++ (slice ++ after)
  pub same : str_to_ascii_lowercase slice ≡ str_to_ascii_lowercase w

-- the text contains each of the words
abbrev pub HasWords : List ℕ → List Name → Type 0
HasWords text ws = AllByRecursion (HasWord text) ws
