-- A text has exactly one of tokens, text fault and comment fault.
use Rattle.mm_lex.proofs.Prelude.{◌≡◌, ℕ, List, Option, Some, None, Ok, Err, refl, position, sym, inl, inr, Span, runs, HasOnlyAllowedBytes, SplitsInto, AreTokens, IsCommentFault, SomeAnswer}
use Rattle.mm_lex.proofs.ScanRuns.{Outcome, scan, scan-split, scan-stops}
use Rattle.mm_lex.proofs.Progress.{AreTokens-scan, IsCommentFault-scan, same_fault, no_fault}
use Rattle.mm_lex.proofs.BadByteLemmas.{is_bad, IsFirstBadByte-found, HasOnlyAllowedBytes-none}

pub SplitsInto-unique : (text : List ℕ) (spans a b : List Span) → SplitsInto text spans a → SplitsInto text spans b → a ≡ b
SplitsInto-unique text spans a b is also = let e = scan-split text spans a is in let f = scan-split text spans b also in cc

pub AreTokens-unique : (text : List ℕ) (a b : List Span) → AreTokens text a → AreTokens text b → a ≡ b
AreTokens-unique text a b is also = SplitsInto-unique text (runs text) a b is.1 also.1

pub AreTokens-no_comment_fault : (text : List ℕ) (tokens : List Span) (offset : ℕ) → AreTokens text tokens → IsCommentFault text offset → ⊥
AreTokens-no_comment_fault text tokens offset is fault = no_fault text tokens offset (scan-split text (runs text) tokens is.1) fault

pub IsCommentFault-unique : (text : List ℕ) (a b : ℕ) → IsCommentFault text a → IsCommentFault text b → a ≡ b
IsCommentFault-unique text a b is also = same_fault text a b (scan-stops text (runs text) a is.1) also

-- each text has tokens, a text fault or a comment fault
pub some_answer : (text : List ℕ) → SomeAnswer text
some_answer text = by (position is_bad text) refl
  where
    clean_answer : (r : Outcome) → scan text (runs text) None ≡ r → HasOnlyAllowedBytes text → SomeAnswer text
    clean_answer (Ok tokens) e allowed = inl (tokens, AreTokens-scan text tokens allowed e)
    clean_answer (Err offset) e allowed = inr (inr (offset, IsCommentFault-scan text offset allowed e))

    by : (o : Option ℕ) → position is_bad text ≡ o → SomeAnswer text
    by (Some offset) e = inr (inl (offset, IsFirstBadByte-found text offset (sym e)))
    by None e = clean_answer (scan text (runs text) None) refl (HasOnlyAllowedBytes-none text (sym e))
