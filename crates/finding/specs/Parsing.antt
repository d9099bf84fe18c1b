-- Which words are a pattern, and the error for those that are not.
-- Source: this project's command `find`; no symbol has a `$`.
-- The code looks for a word that is no part before it makes any part.
use Rattle.std.specs.Prelude.{◌≡◌, Bool, not, ◌&&◌, ◌||◌, IsTrue, IsFalse, List, Some, None, codes}
use Rattle.std.specs.List.{find, list_any}
use Rattle.mm_lex.specs.Alphabet.{Name, name_eq, has_byte}
use Rattle.finding.specs.declared.pattern.PatternFault.{PatternFault}
use Rattle.finding.specs.declared.pattern.PatternFault.TheVariants.{UnknownWord, NoSymbol, Memory}

-- a word without `$`
abbrev pub is_symbol_word : Name → Bool
is_symbol_word w = not (has_byte 36 w)

-- a word that has a `$` and is neither `$?` nor `$*`
abbrev pub is_unknown_word : Name → Bool
is_unknown_word w = has_byte 36 w && not (name_eq w (codes "$?") || name_eq w (codes "$*"))

-- each word is a part, and at least one is a symbol
abbrev pub ArePattern : List Name → Type 0
ArePattern ws = (find is_unknown_word ws ≡ None) × IsTrue (list_any is_symbol_word ws)

-- the error: the first unknown word if there is one, else that no word is a symbol; `Memory` only
-- if the words are a pattern
abbrev pub IsParseError : List Name → PatternFault → Type 0
IsParseError ws (UnknownWord w) = find is_unknown_word ws ≡ Some w.now
IsParseError ws NoSymbol = (find is_unknown_word ws ≡ None) × IsFalse (list_any is_symbol_word ws)
IsParseError ws Memory = ArePattern ws
