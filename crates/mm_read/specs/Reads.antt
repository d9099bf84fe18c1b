-- The statements that a text reads as, or the token at which it has a shape fault. A text, or a
-- list of tokens, reads as well-shaped statements if its tokens are those that the statements are
-- written as (`tokens_of`).
-- Source: Metamath, 4.1 and appendix E.
-- The code reads the text once, left to right; here reading is the inverse of writing.
use Rattle.std.specs.Prelude.{◌≡◌, ◌≢◌, ℕ, ◌+◌, ◌-◌, ◌⊎◌, List, ◌++◌, length, take}
use Rattle.mm_lex.specs.declared.span.Span.{Span}
use Rattle.mm_lex.specs.declared.fault.LexFault.{LexFault}
use Rattle.mm_lex.specs.declared.fault.LexFault.TheVariants as lex
use Rattle.mm_lex.specs.Alphabet.{Name}
use Rattle.mm_lex.specs.TextFaults.{IsLexFault}
use Rattle.mm_lex.specs.Tokens.{AreTokens, words}
use Rattle.mm_read.specs.declared.fault.ReadFault.{ReadFault}
use Rattle.mm_read.specs.declared.fault.ReadFault.TheVariants.{Text, Shape, Memory}
use Rattle.mm_read.specs.Statements.{Database, AreShaped, tokens_of}

-- the tokens of the text are these
abbrev pub HasTokens : List ℕ → List Name → Type 0
HasTokens text tokens = (spans : List Span) × AreTokens text spans × (words text spans ≡ tokens)

-- the text reads as these statements
pub record Reads (text : List ℕ) (S : Database) : Type 0 where
  pub shaped : AreShaped S
  pub tokens : HasTokens text (tokens_of S)

-- these tokens are the first ones, or all, of some list of well-shaped statements
pub record IsStatementsPrefix (tokens : List Name) : Type 0 where
  pub statements : Database
  pub rest : List Name
  pub shaped : AreShaped statements
  pub whole : tokens_of statements ≡ tokens ++ rest

-- these tokens read as no list of statements
abbrev pub IsNoDatabase : List Name → Type 0
IsNoDatabase tokens = (S : Database) → AreShaped S → tokens_of S ≡ tokens → ⊥

-- the number, from 1, of the first token such that no list of statements begins with the tokens up
-- to it; or, if there is none and the last statement is not whole, the number of tokens plus 1
pub record IsShapeFault (tokens : List Name) (token : ℕ) : Type 0 where
  pub none : IsNoDatabase tokens
  pub before : IsStatementsPrefix (take (token - 1) tokens)
  pub here : (IsStatementsPrefix (take token tokens) → ⊥) ⊎ (token ≡ length tokens + 1)

-- the text can be split into tokens, and this is their shape fault
abbrev pub HasShapeFault : List ℕ → ℕ → Type 0
HasShapeFault text token = (tokens : List Name) × HasTokens text tokens × IsShapeFault tokens token

-- the text has this fault; `Memory` says nothing of the text
abbrev pub IsReadFault : List ℕ → ReadFault → Type 0
IsReadFault text (Text fault) = IsLexFault text fault × (fault ≢ lex.Memory)
IsReadFault text (Shape token) = HasShapeFault text token
IsReadFault text Memory = Unit {0}

-- the fault of reading that a fault of `mm_lex` becomes
abbrev pub read_fault : LexFault → ReadFault
read_fault lex.Memory = Memory
read_fault fault = Text fault
