-- Patterns of symbols, and the expressions that they match.
-- Source: this project's form of the patterns of `search` in the program metamath; no symbol has a
-- `$`.
-- The code goes once from left to right; here an expression is split into the symbols that each
-- part matches.
use Rattle.std.specs.Prelude.{◌≡◌, List, [], ◌∷◌, ◌++◌, codes, if◌then◌else◌}
use Rattle.mm_lex.specs.Alphabet.{Name, name_eq}

-- a part of a pattern: a symbol, `$?` or `$*`
pub data Part : Type 0 where
  symbol : Name → Part
  any_symbol : Part
  any_sequence : Part

-- a word of the pattern as a part
abbrev pub part_of : Name → Part
part_of w = if name_eq w (codes "$?") then any_symbol else if name_eq w (codes "$*") then any_sequence else symbol w

-- the parts match exactly these symbols, in order
abbrev pub MatchesExactly : List Part → List Name → Type 0
MatchesExactly [] e = e ≡ []
MatchesExactly (symbol s ∷ p) e = (rest : List Name) × (e ≡ s ∷ rest) × MatchesExactly p rest
MatchesExactly (any_symbol ∷ p) e = (any : Name) × (rest : List Name) × (e ≡ any ∷ rest) × MatchesExactly p rest
MatchesExactly (any_sequence ∷ p) e = (any : List Name) × (rest : List Name) × (e ≡ any ++ rest) × MatchesExactly p rest

-- the parts match a contiguous run of the symbols of the expression
pub record Matches (p : List Part) (e : List Name) : Type 0 where
  pub before : List Name
  pub run : List Name
  pub after : List Name
  pub whole : e ≡ before ++ (run ++ after)
  pub exact : MatchesExactly p run
