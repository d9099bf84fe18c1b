-- Laws of tokens: the split at comments is unique, and each text has exactly one of tokens, text
-- fault, comment fault.
-- Source: Metamath, 4.1.1 and 4.1.2.
-- The contracts of the code cite the same definitions; these laws state that the definitions
-- determine each result of `tokens` other than `Memory`.
use Rattle.std.specs.Prelude.{◌≡◌, ℕ, ◌⊎◌, List}
use Rattle.mm_lex.specs.declared.span.Span.{Span}
use Rattle.mm_lex.specs.Tokens.{SplitsInto, AreTokens}
use Rattle.mm_lex.specs.TextFaults.{IsFirstBadByte, IsCommentFault}

-- two splits of the same runs have the same tokens and the same comments
abbrev pub OneSplit : Type 0
OneSplit = (text : List ℕ) (spans tokens others : List Span) (split : SplitsInto text spans tokens) (other : SplitsInto text spans others)
    → (tokens ≡ others) × (split.first ≡ other.first) × (split.parts ≡ other.parts)

-- a text has tokens, or a text fault, or a comment fault
abbrev pub SomeAnswer : List ℕ → Type 0
SomeAnswer text = ((tokens : List Span) × AreTokens text tokens) ⊎ ((offset : ℕ) × IsFirstBadByte text offset) ⊎ ((offset : ℕ) × IsCommentFault text offset)

-- each text has exactly one of the three: one list of tokens, or one offset of a fault
pub record OneAnswer : Type 0 where
  pub some : (text : List ℕ) → SomeAnswer text
  pub tokens_or_text : (text : List ℕ) (tokens : List Span) (offset : ℕ) → AreTokens text tokens → IsFirstBadByte text offset → ⊥
  pub tokens_or_comment : (text : List ℕ) (tokens : List Span) (offset : ℕ) → AreTokens text tokens → IsCommentFault text offset → ⊥
  pub text_or_comment : (text : List ℕ) (a b : ℕ) → IsFirstBadByte text a → IsCommentFault text b → ⊥
  pub one_list : (text : List ℕ) (tokens others : List Span) → AreTokens text tokens → AreTokens text others → tokens ≡ others
  pub one_text_fault : (text : List ℕ) (a b : ℕ) → IsFirstBadByte text a → IsFirstBadByte text b → a ≡ b
  pub one_comment_fault : (text : List ℕ) (a b : ℕ) → IsCommentFault text a → IsCommentFault text b → a ≡ b
