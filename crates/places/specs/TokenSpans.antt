-- The span of a token of a statement in a text that reads as statements.
-- Source: Metamath, 4.1 and appendix E.
-- The code counts the tokens that end a statement; here the tokens of the earlier statements are
-- counted.
use Rattle.std.specs.Prelude.{◌≡◌, ℕ, zero, suc, ◌+◌, ◌-◌, ◌≤◌, Bool, ◌||◌, if◌then◌else◌, List, [], ◌∷◌, length, take, Option, Some, None, slice_get, codes}
use Rattle.mm_lex.specs.declared.span.Span.{Span}
use Rattle.mm_lex.specs.Alphabet.{Name, name_eq}
use Rattle.mm_lex.specs.Tokens.{AreTokens, words}
use Rattle.mm_read.specs.declared.stmt.Stmt.{Stmt}
use Rattle.mm_read.specs.Statements.{Database, stmt_tokens, tokens_of}

-- the statement of this number has a token of this number, both counted from 1
pub record HasToken (S : Database) (statement token : ℕ) : Type 0 where
  pub stmt : Stmt
  pub statement_from_one : 1 ≤ statement
  pub is_there : slice_get S (statement - 1) ≡ Some stmt
  pub token_from_one : 1 ≤ token
  pub within : token ≤ length (stmt_tokens stmt)

-- the index of that token in the text: the tokens of the earlier statements precede it
abbrev pub token_index : Database → ℕ → ℕ → ℕ
token_index S statement token = length (tokens_of (take (statement - 1) S)) + (token - 1)

-- the token of the statement has this span
pub record IsTokenSpan (text : List ℕ) (S : Database) (statement token : ℕ) (span : Span) : Type 0 where
  pub tokens : List Span
  pub all_tokens : AreTokens text tokens
  pub written : words text tokens ≡ tokens_of S
  pub at_index : slice_get tokens (token_index S statement token) ≡ Some span

-- whether this token ends a statement; `${` and `$}` are statements of one token
abbrev pub ends_statement : Name → Bool
ends_statement w = name_eq w (codes "$.") || name_eq w (codes "${") || name_eq w (codes "$}")

-- the index of the first token after n tokens that end a statement, or the number of tokens if
-- fewer than n end one
abbrev pub index_after_ends : ℕ → List Name → ℕ
index_after_ends zero ws = 0
index_after_ends (suc n) [] = 0
index_after_ends (suc n) (w ∷ ws) = suc (index_after_ends (if ends_statement w then n else suc n) ws)

-- among all tokens of a text, the one that has this number after those of the earlier statements,
-- both counted from 1; `None` if a number is 0 or there is no such token
abbrev pub counted_token : List ℕ → List Span → ℕ → ℕ → Option Span
counted_token text tokens zero token = None
counted_token text tokens (suc earlier) zero = None
counted_token text tokens (suc earlier) (suc k) = slice_get tokens (index_after_ends earlier (words text tokens) + k)

-- the text splits into tokens, and the answer is the one that is counted out
abbrev pub IsCountedToken : List ℕ → ℕ → ℕ → Option Span → Type 0
IsCountedToken text statement token answer =
    (tokens : List Span) × AreTokens text tokens × (answer ≡ counted_token text tokens statement token)
