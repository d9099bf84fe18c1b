-- A list of symbols in a text, and the token that ends it.
-- Source: Metamath, 4.1.2 and 4.1.3 (a list of symbols ends with a keyword; it may have comments in
-- it).
-- The code copies many symbols at once; here the list is the tokens between two offsets.
use Rattle.std.specs.Prelude.{◌≡◌, ℕ, ◌<◌, IsTrue, IsFalse, List, [], ◌∷◌, ◌++◌, Option, Some, None}
use Rattle.std.specs.List.{list_all}
use Rattle.mm_lex.specs.declared.span.Span.{Span}
use Rattle.mm_lex.specs.Alphabet.{Name, is_symbol, word}
use Rattle.mm_lex.specs.Tokens.{IsWordAt}
use Rattle.mm_lex.specs.Between.{AreTokensBetween, AreTokensAfter}

-- the new list is the old one followed by the symbols between the two offsets
pub record AddsSymbols (text : List ℕ) (from at : ℕ) (old new : List Name) : Type 0 where
  pub more : List Name
  pub whole : new ≡ old ++ more
  pub between : AreTokensBetween text from at more
  pub symbols : IsTrue (list_all is_symbol more)

-- these are the tokens from an offset on, up to the token with this span, which is not a symbol
pub record EndsSymbols (text : List ℕ) (from : ℕ) (ws : List Name) (s : Span) : Type 0 where
  pub token : IsWordAt text s
  pub later : from < s.end
  pub between : AreTokensBetween text from s.end (ws ++ word text s ∷ [])
  pub other : IsFalse (is_symbol (word text s))

-- these are the tokens from an offset on, up to such a token, or up to the end of the text; the
-- clause `symbols` of the code says that they are symbols
abbrev pub IsListAndEnd : List ℕ → ℕ → List Name → Option Span → Type 0
IsListAndEnd text from ws (Some s) = EndsSymbols text from ws s
IsListAndEnd text from ws None = AreTokensAfter text from ws
