-- The answer of the reader is the only one: a text has tokens or one fault of the tokens, and its
-- tokens read as one list of statements or have one misplaced token.
use Rattle.mm_read.proofs.Words.{◌≡◌, ℕ, ◌⊎◌, List, Result, Ok, Err, MatchResult, IfOk, IfErr, IsErrAnd, sym, ◌∙◌, ap, refl, subst, inl, inr, Name, HasOnlyAllowedBytes, words, IsFirstBadByte, IsCommentFault, AreTokensAfter, HasOnlyAllowedBytes-no_fault, AreTokens-unique, AreTokens-no_comment_fault, IsCommentFault-unique, ReadFault, Text, Shape, Memory, Database, tokens_of, HasTokens, Reads, IsShapeFault, HasShapeFault, IsReadFault, IsFaultOf}
use Rattle.mm_lex.specs.declared.fault.LexFault.TheVariants as lex
use Rattle.mm_read.proofs.OneStatementList.{one_statement_list}
use Rattle.mm_read.proofs.ShapeFaults.{one_shape_fault}

-- the list of the tokens of a text is unique
pub same_tokens : (text : List ℕ) (ts us : List Name) → HasTokens text ts → HasTokens text us → ts ≡ us
same_tokens text ts us has also = sym has.2 ∙ (ap (words text) (AreTokens-unique text has.0 also.0 has.1 also.1) ∙ also.2)

module _ (text : List ℕ) (allowed : HasOnlyAllowedBytes text) where
  -- the tokens after the first place are the tokens of the text
  all_tokens : (ts : List Name) → AreTokensAfter text 0 ts → HasTokens text ts
  all_tokens ts are = (are.0, (allowed, are.1), are.2)

  -- a text with tokens has no comment fault
  no_comment_fault : (ts : List Name) (offset : ℕ) → HasTokens text ts → IsCommentFault text offset → ⊥
  no_comment_fault ts offset has is = AreTokens-no_comment_fault text has.0 offset has.1 is

  -- the fault for which a text of allowed bytes is refused is a fault of the text
  pub fault_is : (fault : ReadFault) → IsFaultOf text fault → IsReadFault text fault
  fault_is (Text (lex.Text offset)) is = absurd is
  fault_is (Text (lex.Comment offset)) is = ((allowed, is), λ e. cc)
  fault_is (Text lex.Memory) is = absurd is
  fault_is (Shape token) is = (is.0, all_tokens is.0 is.1, is.2)
  fault_is Memory is = tt

  -- a text of allowed bytes has no bad byte
  pub no_bad_byte : {P : Type 0} (offset : ℕ) → IsFirstBadByte text offset → P
  no_bad_byte offset is = absurd (HasOnlyAllowedBytes-no_fault text offset allowed is)

  module _ {V : Type 0} (items : V → Database) where
    -- if the text reads as statements, the reader returns these, or an allocation failed
    pub the_statements : (r : Result V ReadFault) → IfOk r (λ v. Reads text (items v)) → IfErr r (IsFaultOf text)
        → (S : Database) → Reads text S → MatchResult r (λ v. items v ≡ S) (λ fault. fault ≡ Memory)
    the_statements (Ok v) found fault S reads = one_statement_list (items v) S found.shaped reads.shaped (same_tokens text (tokens_of (items v)) (tokens_of S) found.tokens reads.tokens)
    the_statements (Err (Text (lex.Text offset))) found fault S reads = absurd fault
    the_statements (Err (Text (lex.Comment offset))) found fault S reads = absurd (no_comment_fault (tokens_of S) offset reads.tokens (allowed, fault))
    the_statements (Err (Text lex.Memory)) found fault S reads = absurd fault
    the_statements (Err (Shape t)) found fault S reads =
        absurd (fault.2.none S reads.shaped (same_tokens text (tokens_of S) fault.0 reads.tokens (all_tokens fault.0 fault.1)))
    the_statements (Err Memory) found fault S reads = refl

    -- if the text has a comment fault, the reader returns it
    pub the_comment_fault : (r : Result V ReadFault) → IfOk r (λ v. Reads text (items v)) → IfErr r (IsFaultOf text)
        → (offset : ℕ) → IsCommentFault text offset → r ≡ Err (Text (lex.Comment offset))
    the_comment_fault (Ok v) found fault offset is = absurd (no_comment_fault (tokens_of (items v)) offset found.tokens is)
    the_comment_fault (Err (Text (lex.Text o))) found fault offset is = absurd fault
    the_comment_fault (Err (Text (lex.Comment o))) found fault offset is = ap (λ o. Err (Text (lex.Comment o))) (IsCommentFault-unique text o offset (allowed, fault) is)
    the_comment_fault (Err (Text lex.Memory)) found fault offset is = absurd fault
    the_comment_fault (Err (Shape t)) found fault offset is = absurd (no_comment_fault fault.0 offset (all_tokens fault.0 fault.1) is)
    the_comment_fault (Err Memory) found fault offset is = absurd (no_comment_fault fault.0 offset (all_tokens fault.0 fault.1) is)

    -- if the text has a misplaced token, the reader returns it, or an allocation failed
    pub the_shape_fault : (r : Result V ReadFault) → IfOk r (λ v. Reads text (items v)) → IfErr r (IsFaultOf text)
        → (token : ℕ) → HasShapeFault text token → IsErrAnd r (λ fault. (fault ≡ Shape token) ⊎ (fault ≡ Memory))
    the_shape_fault (Ok v) found fault token has = absurd (has.2.none (items v) found.shaped (same_tokens text (tokens_of (items v)) has.0 found.tokens has.1))
    the_shape_fault (Err (Text (lex.Text o))) found fault token has = absurd fault
    the_shape_fault (Err (Text (lex.Comment o))) found fault token has = absurd (no_comment_fault has.0 o has.1 (allowed, fault))
    the_shape_fault (Err (Text lex.Memory)) found fault token has = absurd fault
    the_shape_fault (Err (Shape t)) found fault token has =
        let same : fault.0 ≡ has.0 = same_tokens text fault.0 has.0 (all_tokens fault.0 fault.1) has.1 in
        inl (ap Shape (one_shape_fault has.0 t token (subst (λ ts. IsShapeFault ts t) same fault.2) has.2))
    the_shape_fault (Err Memory) found fault token has = inr refl

-- a text with a bad byte
module _ (text : List ℕ) (offset : ℕ) (bad : IsFirstBadByte text offset) where
  -- it has no list of tokens
  pub bad_no_tokens : {P : Type 0} (ts : List Name) → HasTokens text ts → P
  bad_no_tokens ts has = absurd (HasOnlyAllowedBytes-no_fault text offset has.1.0 bad)

  -- it has no comment fault, which only a text of allowed bytes has
  pub bad_no_comment : {P : Type 0} (at : ℕ) → IsCommentFault text at → P
  bad_no_comment at is = absurd (HasOnlyAllowedBytes-no_fault text offset is.0 bad)

-- a text that reads as statements
module _ (text : List ℕ) (T : Database) (reads : Reads text T) where
  -- it reads as no other statements
  pub one_reading : (S : Database) → Reads text S → T ≡ S
  one_reading S also = one_statement_list T S reads.shaped also.shaped (same_tokens text (tokens_of T) (tokens_of S) reads.tokens also.tokens)

  -- it has no comment fault
  pub read_no_comment_fault : {P : Type 0} (offset : ℕ) → IsCommentFault text offset → P
  read_no_comment_fault offset is = absurd (no_comment_fault text reads.tokens.1.0 (tokens_of T) offset reads.tokens is)

  -- it has no misplaced token
  pub read_no_shape_fault : {P : Type 0} (token : ℕ) → HasShapeFault text token → P
  read_no_shape_fault token has = absurd (has.2.none T reads.shaped (same_tokens text (tokens_of T) has.0 reads.tokens has.1))
