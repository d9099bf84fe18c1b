-- What is read of a text whose tokens read as no list of statements. Its tokens are cut into pieces,
-- each up to a token that ends a statement. A piece that reads as statements is read; one that does
-- not begins a part that is left out, up to the next `$.`.
-- Source: Metamath, 4.1; that reading goes on after a fault is this project's choice.
-- The code reads one piece after another, each from a text of its own.
use Rattle.std.specs.Prelude.{◌≡◌, ℕ, suc, ◌+◌, ◌-◌, ◌<◌, ◌≤◌, if◌then◌else◌, IsTrue, List, [], ◌∷◌, ◌++◌, length, drop, slice_range, codes}
use Rattle.mm_lex.specs.declared.span.Span.{Span}
use Rattle.mm_lex.specs.Alphabet.{Name, name_eq, word}
use Rattle.mm_lex.specs.Tokens.{IsWordAt, is_plain, words}
use Rattle.mm_read.specs.declared.fault.ReadFault.{ReadFault}
use Rattle.mm_read.specs.declared.fault.ReadFault.TheVariants.{Text, Shape, Memory}
use Rattle.mm_read.specs.Reads.{IsShapeFault}
use Rattle.mm_read.specs.Statements.{AreShaped, Database, tokens_of}
use Rattle.places.specs.TokenSpans.{index_after_ends}
use Rattle.places.specs.declared.misread.Misread.{Misread}

-- the index after the first token from an index on that ends a statement, or the number of tokens
abbrev pub piece_end : List ℕ → List Span → ℕ → ℕ
piece_end text spans at = at + index_after_ends 1 (words text (drop at spans))

-- the piece that begins at an index
abbrev pub piece : List ℕ → List Span → ℕ → List Span
piece text spans at = slice_range spans at (piece_end text spans at)

-- how many tokens there are up to the first `$.`, or all if there is none
abbrev pub count_to_stop : List Name → ℕ
count_to_stop [] = 0
count_to_stop (w ∷ tokens) = suc (if name_eq w (codes "$.") then 0 else count_to_stop tokens)

-- a part that is left out: no list of statements begins with the tokens of its first piece up to
-- that at `fault`, or the text ends there within a statement; it ends with the first `$.` from there
-- on, or else with the text
pub record IsMisread (text : List ℕ) (spans : List Span) (part : Misread) : Type 0 where
  pub inside : part.first < length spans
  pub order : part.first ≤ part.fault
  pub fault : IsShapeFault (words text (piece text spans part.first)) (part.fault - part.first + 1)
  pub end : part.end ≡ part.fault + count_to_stop (words text (drop part.fault spans))

-- what is read up to the token at an index: the statements, the spans of their tokens, and the parts
-- that are left out
pub data IsReadUpTo (text : List ℕ) (spans : List Span) : ℕ → Database → List Span → List Misread → Type 0 where
  nothing : {at : ℕ} {S : Database} {own : List Span} {parts : List Misread} → at ≡ 0 → S ≡ [] → own ≡ [] → parts ≡ [] → IsReadUpTo text spans at S own parts
  statements : {next : ℕ} {S : Database} {own : List Span} {parts : List Misread} → (at : ℕ) (T U : Database) (before : List Span)
      → IsReadUpTo text spans at T before parts → at < length spans → AreShaped U → tokens_of U ≡ words text (piece text spans at)
      → next ≡ piece_end text spans at → S ≡ T ++ U → own ≡ before ++ piece text spans at → IsReadUpTo text spans next S own parts
  misread : {next : ℕ} {S : Database} {own : List Span} {parts : List Misread} → (part : Misread) (before : List Misread)
      → IsReadUpTo text spans part.first S own before → IsMisread text spans part → next ≡ part.end → parts ≡ before ++ part ∷ [] → IsReadUpTo text spans next S own parts

-- ---- for the private functions

-- the tokens as a text, a space after each
abbrev pub laid_out : List Name → List ℕ
laid_out [] = []
laid_out (w ∷ tokens) = w ++ 32 ∷ laid_out tokens

-- the span is the place of a token: of a word that begins and ends no comment
pub record IsTokenAt (text : List ℕ) (s : Span) : Type 0 where
  pub word_at : IsWordAt text s
  pub plain : IsTrue (is_plain (word text s))

-- why a piece does not read as statements
abbrev pub IsPieceFault : List Name → ReadFault → Type 0
IsPieceFault tokens (Text fault) = ⊥
IsPieceFault tokens (Shape token) = IsShapeFault tokens token
IsPieceFault tokens Memory = Unit {0}
