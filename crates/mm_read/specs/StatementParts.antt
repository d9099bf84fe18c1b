-- The parts of a statement that can follow an offset into the text: a keyword, a list of symbols,
-- one token; and their faults.
-- Source: Metamath, 4.1 and appendix E.
-- The functions that read parts of a statement cite these; `Reads` defines reading for a whole
-- text.
use Rattle.std.specs.Prelude.{◌≡◌, ℕ, Bool, ◌+◌, ◌<◌, ◌≤◌, ◌⊎◌, IsTrue, IsFalse, List, [], ◌∷◌, ◌++◌, length, codes}
use Rattle.std.specs.List.{list_all}
use Rattle.mm_lex.specs.Alphabet.{Name, name_eq, has_name, is_symbol}
use Rattle.mm_lex.specs.Between.{AreTokensAfter, IsCommentFaultAfter}
use Rattle.mm_read.specs.declared.keyword.Keyword.{Keyword}
use Rattle.mm_read.specs.declared.keyword.Keyword.TheVariants.{Open, Close, Const, Var, Disj, Float, Ess, Axiom, Prove, Other}
use Rattle.mm_read.specs.declared.fault.ReadFault.{ReadFault}
use Rattle.mm_read.specs.declared.fault.ReadFault.TheVariants.{Text, Shape, Memory}

-- the keywords that decide the shape of a statement
abbrev pub keywords : List Name
keywords =
    codes "${" ∷ codes "$}" ∷ codes "$c" ∷ codes "$v" ∷ codes "$d" ∷ codes "$f" ∷ codes "$e" ∷ codes "$a" ∷ codes "$p" ∷ []

-- the keyword that the code returns for a token is right
abbrev pub IsKeyword : Keyword → Name → Type 0
IsKeyword Open w = w ≡ codes "${"
IsKeyword Close w = w ≡ codes "$}"
IsKeyword Const w = w ≡ codes "$c"
IsKeyword Var w = w ≡ codes "$v"
IsKeyword Disj w = w ≡ codes "$d"
IsKeyword Float w = w ≡ codes "$f"
IsKeyword Ess w = w ≡ codes "$e"
IsKeyword Axiom w = w ≡ codes "$a"
IsKeyword Prove w = w ≡ codes "$p"
IsKeyword Other w = IsFalse (has_name w keywords)

-- a list that needs at least `least` symbols and then the keyword `end` breaks off after the
-- symbols `ws`: no token follows, or one that neither continues the list nor ends it
abbrev pub BreaksList : ℕ → Name → List Name → List Name → Type 0
BreaksList least end ws [] = Unit {0}
BreaksList least end ws (t ∷ rest) = IsFalse (is_symbol t) × ((length ws < least) ⊎ IsFalse (name_eq t end))

-- these tokens begin with a list that breaks off at the token of number `token`, where the first of
-- them has the number `number`
pub record BeginsBrokenList (tokens : List Name) (number least : ℕ) (end : Name) (token : ℕ) : Type 0 where
  pub ws : List Name
  pub rest : List Name
  pub symbols : IsTrue (list_all is_symbol ws)
  pub whole : tokens ≡ ws ++ rest
  pub place : token ≡ number + length ws
  pub stop : BreaksList least end ws rest

-- if there is no comment fault after an offset, the tokens after it begin with such a list; in any
-- case the token's number is bounded by the bytes that are left (`few`)
pub record HasBrokenList (text : List ℕ) (at number least : ℕ) (end : Name) (token : ℕ) : Type 0 where
  pub few : token + at ≤ number + length text
  pub stops : (tokens : List Name) → AreTokensAfter text at tokens → BeginsBrokenList tokens number least end token

-- why no whole list follows an offset: a comment fault; the token at which it breaks off, if there
-- is no comment fault; or a failed allocation
abbrev pub IsListFault : List ℕ → ℕ → ℕ → ℕ → Name → ReadFault → Type 0
IsListFault text at number least end (Text fault) = IsCommentFaultAfter text at fault
IsListFault text at number least end (Shape token) = HasBrokenList text at number least end token
IsListFault text at number least end Memory = Unit {0}

-- there is no token, or the first one does not fit
abbrev pub StartsOtherwise : (Name → Bool) → List Name → Type 0
StartsOtherwise fits [] = Unit {0}
StartsOtherwise fits (t ∷ rest) = IsFalse (fits t)

-- why no fitting token follows an offset: a comment fault; another token or none, if there is no
-- comment fault; or a failed allocation
abbrev pub IsTokenFault : List ℕ → ℕ → ℕ → (Name → Bool) → ReadFault → Type 0
IsTokenFault text at number fits (Text fault) = IsCommentFaultAfter text at fault
IsTokenFault text at number fits (Shape token) =
    (token ≡ number) × ((tokens : List Name) → AreTokensAfter text at tokens → StartsOtherwise fits tokens)
IsTokenFault text at number fits Memory = Unit {0}
