-- The pieces of a text, read one by one.
use Rattle.places.proofs.Words.{◌≡◌, ℕ, zero, suc, ◌+◌, ◌-◌, ◌<◌, ◌≤◌, true, false, Bool, cond, List, [], ◌∷◌, ◌++◌, length, take, drop, get_or, refl, sym, ◌∙◌, ap, arith, subst, append_assoc, inl, inr, codes, and_from, and_parts, cases_lt, list_all, list_all-append, map-append, Result, Ok, Err, Span, Name, name_eq, word, words, is_plain, AreCommentsAndTokens, AreTokens, AllPlain, CommentAndTokens, flat_map, Database, AreShaped, tokens_of}
use Rattle.std.specs.Prelude.{◌⊎◌, IfErr, IfOk, slice_range}
use Rattle.std.specs.List.{All}
use Rattle.std.proofs.Common.{length-take}
use Rattle.std.proofs.lemmas.List.{length-drop, length-map, take_all}
use Rattle.std.proofs.lemmas.List.Elements.{All-append, All-drop, All-take}
use Rattle.mm_lex.proofs.BadByteLemmas.{HasOnlyAllowedBytes-no_fault}
use Rattle.mm_lex.proofs.TokensLemmas.{AreTokens-no_comment_fault}
use Rattle.mm_lex.specs.Tokens.{IsWordAt}
use Rattle.mm_lex.specs.Words.{is_word}
use Rattle.mm_lex.specs.declared.fault.LexFault.TheVariants as lex
use Rattle.mm_read.proofs.OneReading.{same_tokens}
use Rattle.mm_read.proofs.StatementByStatement.{shaped-append, tokens_of-append}
use Rattle.mm_read.specs.Reads.{HasTokens, IsReadFault, IsShapeFault, IsStatementsPrefix, Reads}
use Rattle.mm_read.specs.declared.fault.ReadFault.{ReadFault}
use Rattle.mm_read.specs.declared.fault.ReadFault.TheVariants.{Text, Shape, Memory}
use Rattle.places.proofs.LaidOutLemmas.{laid-tokens}
use Rattle.places.proofs.TokenSpanLemmas.{words_drop}
use Rattle.places.specs.Misread.{IsPieceFault, IsReadUpTo, IsTokenAt, count_to_stop, laid_out, misread, nothing, piece, piece_end, statements}
use Rattle.places.specs.declared.misread.Misread.{Misread}
use Rattle.places.specs.declared.misread.PartialReading.{PartialReading}

-- ---- tokens

passes : {X : Type 0} (p : X → Bool) (xs : List X) → list_all p xs ≡ true → (k : ℕ) (d : X) → k < length xs → p (get_or xs k d) ≡ true
passes p [] all k d h = absurd (omega (arith, h))
passes p (x ∷ xs) all zero d h = (and_parts (p x) (list_all p xs) all).0
passes p (x ∷ xs) all (suc k) d h = passes p xs (and_parts (p x) (list_all p xs) all).1 k d (omega (arith, h))

plain_parts : (text : List ℕ) (ps : List CommentAndTokens) → AreCommentsAndTokens text ps → AllPlain text (flat_map (λ p. p.after) ps)
plain_parts text [] are = refl
plain_parts text (p ∷ ps) are =
    list_all-append (λ s. is_plain (word text s)) p.after (flat_map (λ p. p.after) ps)
    ∙ and_from (list_all (λ s. is_plain (word text s)) p.after) (list_all (λ s. is_plain (word text s)) (flat_map (λ p. p.after) ps)) are.0.after (plain_parts text ps are.1)

-- the spans of the tokens of a text are places of tokens
pub tokens_are : (text : List ℕ) (spans : List Span) → AreTokens text spans → All (IsWordAt text) spans → All (IsTokenAt text) spans
tokens_are text spans are all = λ k d h. record { word_at = all k d h; plain = passes (λ s. is_plain (word text s)) spans plain k d h }
  where
    plain : AllPlain text spans
    plain =
        ap (list_all (λ s. is_plain (word text s))) are.1.outside
        ∙ (list_all-append (λ s. is_plain (word text s)) are.1.first (flat_map (λ p. p.after) are.1.parts)
        ∙ and_from (list_all (λ s. is_plain (word text s)) are.1.first) (list_all (λ s. is_plain (word text s)) (flat_map (λ p. p.after) are.1.parts)) are.1.plain (plain_parts text are.1.parts are.1.comments))

pub words_at : (text : List ℕ) (spans : List Span) → All (IsTokenAt text) spans → All (IsWordAt text) spans
words_at text spans all = λ k d h. (all k d h).word_at

pub all_rest : (text : List ℕ) (spans : List Span) (n : ℕ) → All (IsTokenAt text) spans → All (IsTokenAt text) (drop n spans)
all_rest text spans n all = All-drop (IsTokenAt text) n spans all

pub all_range : (text : List ℕ) (spans : List Span) (i j : ℕ) → All (IsTokenAt text) spans → All (IsTokenAt text) (slice_range spans i j)
all_range text spans i j all = All-take (IsTokenAt text) (j - i) (drop i spans) (All-drop (IsTokenAt text) i spans all)

each : (text : List ℕ) (spans : List Span) → All (IsTokenAt text) spans → (list_all is_word (words text spans) ≡ true) × (list_all is_plain (words text spans) ≡ true)
each text [] all = (refl, refl)
each text (s ∷ spans) all =
    let here : IsTokenAt text s = all 0 s (omega arith) in
    let rest : (list_all is_word (words text spans) ≡ true) × (list_all is_plain (words text spans) ≡ true) = each text spans (λ k d h. all (suc k) d (omega (arith, h))) in
    (and_from (is_word (word text s)) (list_all is_word (words text spans)) here.word_at.word rest.0, and_from (is_plain (word text s)) (list_all is_plain (words text spans)) here.plain rest.1)

-- ---- the text of a piece

-- one more token is laid out
pub laid-step : (text : List ℕ) (spans : List Span) (i next : ℕ) (d : Span) (bytes new whole : List ℕ) → i < length spans → next ≡ i + 1 → new ≡ (bytes ++ word text (get_or spans i d)) ++ 32 ∷ []
    → bytes ++ laid_out (words text (drop i spans)) ≡ whole → new ++ laid_out (words text (drop next spans)) ≡ whole
laid-step text spans i next d bytes new whole h after is same =
    let w : Name = word text (get_or spans i d) in
    let on : next ≡ suc i = omega (arith, after) in
    ap (λ b. b ++ laid_out (words text (drop next spans))) is
    ∙ (append_assoc (bytes ++ w) (32 ∷ []) (laid_out (words text (drop next spans)))
    ∙ (append_assoc bytes w (32 ∷ laid_out (words text (drop next spans)))
    ∙ (ap (λ n. bytes ++ (w ++ 32 ∷ laid_out (words text (drop n spans)))) on
    ∙ (ap (λ ws. bytes ++ laid_out ws) (sym (words_drop text spans i d h)) ∙ same))))

module _ {V : Type 0} (items : V → Database) (text bytes : List ℕ) (spans : List Span) (all : All (IsTokenAt text) spans) (laid : bytes ≡ laid_out (words text spans)) where
  has : HasTokens bytes (words text spans)
  has =
      let p = each text spans all in
      subst (λ b. HasTokens b (words text spans)) (sym laid) (laid-tokens (words text spans) p.0 p.1)

  pub piece-shaped : (r : Result V ReadFault) → IfOk r (λ v. Reads bytes (items v)) → IfOk r (λ v. AreShaped (items v))
  piece-shaped (Ok v) h = h.shaped
  piece-shaped (Err e) h = tt

  pub piece-written : (r : Result V ReadFault) → IfOk r (λ v. Reads bytes (items v)) → IfOk r (λ v. tokens_of (items v) ≡ words text spans)
  piece-written (Ok v) h = same_tokens bytes (tokens_of (items v)) (words text spans) h.tokens has
  piece-written (Err e) h = tt

  pub piece-fault : (r : Result V ReadFault) → IfErr r (IsReadFault bytes) → IfErr r (IsPieceFault (words text spans))
  piece-fault (Ok v) h = tt
  piece-fault (Err (Text (lex.Text offset))) h = HasOnlyAllowedBytes-no_fault bytes offset has.1.0 h.0
  piece-fault (Err (Text (lex.Comment offset))) h = AreTokens-no_comment_fault bytes has.0 offset has.1 h.0
  piece-fault (Err (Text lex.Memory)) h = h.1 refl
  piece-fault (Err (Shape token)) h = subst (λ ts. IsShapeFault ts token) (same_tokens bytes h.0 (words text spans) h.1 has) h.2
  piece-fault (Err Memory) h = tt

-- ---- how far a fault and a piece go

pub fault-some : (tokens : List Name) (token : ℕ) → IsShapeFault tokens token → 1 ≤ token
fault-some tokens zero fault = absurd (by fault.here)
  where
    by : (IsStatementsPrefix [] → ⊥) ⊎ (0 ≡ length tokens + 1) → ⊥
    by (inl stop) = stop (record { statements = []; rest = []; shaped = refl; whole = refl })
    by (inr end) = omega (arith, end)
fault-some tokens (suc token) fault = omega arith

pub fault-within : (tokens : List Name) (token : ℕ) → IsShapeFault tokens token → token ≤ length tokens + 1
fault-within tokens token fault = by (cases_lt (length tokens + 1) token) fault.here
  where
    by : (length tokens + 1 < token) ⊎ (token ≤ length tokens + 1) → (IsStatementsPrefix (take token tokens) → ⊥) ⊎ (token ≡ length tokens + 1) → token ≤ length tokens + 1
    by (inr few) here = few
    by (inl past) (inr end) = omega (arith, end)
    by (inl past) (inl stop) = absurd (stop (subst IsStatementsPrefix (take_all (token - 1) tokens (omega (arith, past)) ∙ sym (take_all token tokens (omega (arith, past)))) fault.before))

pub stop-some : (tokens : List Name) → 0 < length tokens → 0 < count_to_stop tokens
stop-some [] some = absurd (omega (arith, some))
stop-some (w ∷ tokens) some = omega arith

left : (text : List ℕ) (spans : List Span) (at : ℕ) → length (words text (drop at spans)) ≡ length spans - at
left text spans at = length-map (drop at spans) (word text) ∙ length-drop at spans

module _ (text : List ℕ) (spans : List Span) (at : ℕ) (inside : at < length spans) where
  pub stop-later : (fault : ℕ) → at ≤ fault → at < fault + count_to_stop (words text (drop fault spans))
  stop-later fault order = by (cases_lt at fault)
    where
      by : (at < fault) ⊎ (fault ≤ at) → at < fault + count_to_stop (words text (drop fault spans))
      by (inl more) = omega (arith, more)
      by (inr less) = let all = left text spans fault in omega (arith, order, stop-some (words text (drop fault spans)) (omega (arith, all, less, inside)))

  -- the fault of a piece is one of its tokens, or comes after them
  pub fault-inside : (token : ℕ) → IsShapeFault (words text (piece text spans at)) token → at + (token - 1) ≤ length spans
  fault-inside token fault =
      let all : length (words text (piece text spans at)) ≡ length (piece text spans at) = length-map (piece text spans at) (word text) in
      let few = length-take (piece_end text spans at - at) (drop at spans) in
      omega (arith, all, few, fault-within (words text (piece text spans at)) token fault, length-drop at spans, inside)

  pub misread-next : {S : Database} {own : List Span} {parts new : List Misread} (token fault stop : ℕ) → IsReadUpTo text spans at S own parts
      → IsShapeFault (words text (piece text spans at)) token → fault ≡ at + (token - 1) → stop ≡ fault + count_to_stop (words text (drop fault spans))
      → new ≡ parts ++ (record { first = at; fault = fault; end = stop }) ∷ [] → IsReadUpTo text spans stop S own new
  misread-next {S} {own} {parts} {new} token fault stop up is place end more =
      let some = fault-some (words text (piece text spans at)) token is in
      let back : token ≡ fault - at + 1 = omega (arith, some, place) in
      let part : Misread = record { first = at; fault = fault; end = stop } in
      misread part parts up
      (record {
        inside = inside;
        order = omega (arith, place);
        fault = subst (IsShapeFault (words text (piece text spans at))) back is;
        end = end;
      })
      refl more

-- ---- the count of tokens up to `$.`

-- the rest of a list, cut at its end
pub rest_of : {X : Type 0} (xs : List X) (n : ℕ) → take (length xs - n) (drop n xs) ≡ drop n xs
rest_of xs n = take_all (length xs - n) (drop n xs) (let all = length-drop n xs in omega (arith, all))

module _ (text : List ℕ) (spans : List Span) (i : ℕ) (d : Span) (h : i < length spans) where
  pub stop-here : name_eq (word text (get_or spans i d)) (codes "$.") ≡ true → count_to_stop (words text (drop i spans)) ≡ 1
  stop-here is =
      ap count_to_stop (words_drop text spans i d h) ∙ ap (λ b. suc (cond b 0 (count_to_stop (words text (drop (suc i) spans))))) is

  pub stop-on : name_eq (word text (get_or spans i d)) (codes "$.") ≡ false → count_to_stop (words text (drop i spans)) ≡ suc (count_to_stop (words text (drop (i + 1) spans)))
  stop-on is =
      let after : suc i ≡ i + 1 = omega arith in
      ap count_to_stop (words_drop text spans i d h)
      ∙ (ap (λ b. suc (cond b 0 (count_to_stop (words text (drop (suc i) spans))))) is ∙ ap (λ n. suc (count_to_stop (words text (drop n spans)))) after)

-- ---- what is read

-- nothing is read up to the first token
pub nothing_read : (text : List ℕ) (spans : List Span) → IsReadUpTo text spans 0 [] [] []
nothing_read text spans = nothing refl refl refl refl

-- the statements that are read are well shaped, and the spans are those of their tokens
pub reading-kept : (text : List ℕ) (spans : List Span) → All (IsWordAt text) spans → {at : ℕ} {S : Database} {own : List Span} {parts : List Misread}
    → IsReadUpTo text spans at S own parts → AreShaped S × (words text own ≡ tokens_of S) × All (IsWordAt text) own
reading-kept text spans all (nothing first none empty no_parts) = (
  subst AreShaped (sym none) refl,
  ap (words text) empty ∙ ap tokens_of (sym none),
  subst (All (IsWordAt text)) (sym empty) (λ k d h. absurd (omega (arith, h))),
)
reading-kept text spans all (statements at T U before up inside shaped written end more spans_more) =
    let r : AreShaped T × (words text before ≡ tokens_of T) × All (IsWordAt text) before = reading-kept text spans all up in (
      subst AreShaped (sym more) (shaped-append T U r.0 shaped),
      ap (words text) spans_more
          ∙ (map-append (word text) before (piece text spans at)
          ∙ (ap (λ ws. ws ++ words text (piece text spans at)) r.1 ∙ (ap (λ ws. tokens_of T ++ ws) (sym written) ∙ (sym (tokens_of-append T U) ∙ ap tokens_of (sym more))))),
      subst (All (IsWordAt text)) (sym spans_more)
          (All-append (IsWordAt text) before (piece text spans at) r.2
          (All-take (IsWordAt text) (piece_end text spans at - at) (drop at spans) (All-drop (IsWordAt text) at spans all))),
    )
reading-kept text spans all (misread part before up is end more) = reading-kept text spans all up

module _ {E : Type 0} (text : List ℕ) (spans : List Span) (all : All (IsWordAt text) spans) where
  abbrev Done : Result PartialReading E → Type 0
  Done r = IfOk r (λ v. IsReadUpTo text spans (length spans) v.statements.items v.spans.items v.misread.items)

  pub reading_shaped : (r : Result PartialReading E) → Done r → IfOk r (λ v. AreShaped v.statements.items)
  reading_shaped (Ok v) read = (reading-kept text spans all read).0
  reading_shaped (Err e) read = tt

  pub reading_written : (r : Result PartialReading E) → Done r → IfOk r (λ v. words text v.spans.items ≡ tokens_of v.statements.items)
  reading_written (Ok v) read = (reading-kept text spans all read).1
  reading_written (Err e) read = tt

  pub reading_words : (r : Result PartialReading E) → Done r → IfOk r (λ v. All (IsWordAt text) v.spans.items)
  reading_words (Ok v) read = (reading-kept text spans all read).2
  reading_words (Err e) read = tt
