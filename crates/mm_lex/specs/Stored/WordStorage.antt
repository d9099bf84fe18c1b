-- How the bytes of a word, or of a list of words, are stored: inline, or in a box.
use Rattle.std.specs.Prelude.{ℕ, ◌≤◌, ⊤, List, take}
use Rattle.mm_lex.specs.declared.word.WordStorage.{WordStorage}
use Rattle.mm_lex.specs.declared.word.WordStorage.TheVariants.{Inline, Heap}

-- the bytes
abbrev pub bytes_of : WordStorage → List ℕ
bytes_of (Inline len bytes) = take len bytes
bytes_of (Heap bytes) = bytes.value.items

-- inline there are at most 14 bytes
abbrev pub IsLengthValid : WordStorage → Type 0
IsLengthValid (Inline len bytes) = len ≤ 14
IsLengthValid (Heap bytes) = ⊤
