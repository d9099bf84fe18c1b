-- Patterns of labels.
-- Source: this project's form of the label patterns of the program metamath.
-- The code matches the bytes of a label as the symbols of an expression, between two ends.
use Rattle.std.specs.Prelude.{ℕ, ◌==◌, if◌then◌else◌, List, [], ◌∷◌, ◌++◌, map}
use Rattle.mm_lex.specs.Alphabet.{Name}
use Rattle.finding.specs.Matches.{Part, symbol, any_sequence, Matches}

-- a byte of a pattern: `*` (42) stands for any number of bytes, any other byte for itself
abbrev pub byte_part : ℕ → Part
byte_part b = if b == 42 then any_sequence else symbol (b ∷ [])

-- the end before the first byte and after the last one: the empty name, which no byte is
abbrev pub end_name : Name
end_name = []

-- the bytes of a label between two ends
abbrev pub byte_name : ℕ → Name
byte_name b = b ∷ []

abbrev pub names_to_end : List ℕ → List Name
names_to_end label = map byte_name label ++ end_name ∷ []

abbrev pub parts_to_end : List ℕ → List Part
parts_to_end pattern = map byte_part pattern ++ symbol end_name ∷ []

-- the pattern matches the whole label
abbrev pub IsLike : List ℕ → Name → Type 0
IsLike pattern label = Matches (symbol end_name ∷ parts_to_end pattern) (end_name ∷ names_to_end label)
