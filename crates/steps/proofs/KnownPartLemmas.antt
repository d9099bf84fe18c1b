-- The known part of a normal proof, token by token.
use Rattle.steps.proofs.Words.{◌≡◌, ◌∙◌, ℕ, ◌+◌, ◌-◌, ◌<◌, ◌≤◌, true, false, List, [], ◌∷◌, ◌++◌, length, take, drop, Some, sym, ap, subst, arith, append_assoc, refl, Name, Stmt, Database, Carries, IsHypothesis, HasAssertion, hypotheses, before, stmt_at, is_assertion, some-same}
use Rattle.std.proofs.lemmas.List.{length-drop, take-append-drop}
use Rattle.std.specs.Prelude.{Bool, Result, Ok, Err, IfOk, MatchBool}
use Rattle.mm_lex.specs.Alphabet.{has_byte}
use Rattle.proof_code.specs.Writes.{question_mark}
use Rattle.steps.specs.KnownPart.{Takes, of_hypothesis, of_assertion, IsUncitable, not_there, Known, known, TakesLast, KnowsToken, spoiled, cited, KnowsTokens, CitesLast, spoils, cites, IsEnd, at_limit, IsKnownPart, known_of}
use Rattle.steps.specs.declared.known_part.KnownPart.{KnownPart}

module _ (S : Database) (at : ℕ) (token : Name) (old new : Known) (count : ℕ) (few : count ≤ length old.stack) where
  -- as many results are taken as are counted
  counted : length (drop (length old.stack - count) old.stack) ≡ count
  counted = let l = length-drop (length old.stack - count) old.stack in omega (arith, l)

  last : has_byte question_mark token ≡ false → Takes S at token count → TakesLast S at token old.stack (take (length old.stack - count) old.stack) (drop (length old.stack - count) old.stack)
  last plain takes = record {
    known = plain;
    takes = subst (Takes S at token) (sym counted) takes;
    whole = sym (take-append-drop (length old.stack - count) old.stack);
  }

  pub citation-known : CitesLast token count old new → has_byte question_mark token ≡ false → Takes S at token count → KnowsToken S at token old new
  citation-known (spoils any same) plain takes = spoiled _ _ (last plain takes) any same
  citation-known (cites all same) plain takes =
      cited _ _ (last plain takes) all
      (same ∙ ap (λ n. known (old.tokens ++ token ∷ []) (take (length old.stack - count) old.stack ++ Some (old.height - n) ∷ []) (old.height - n + 1)) (sym counted))

-- the answer to a citation is that to its token
pub citation-goes : {E : Type 0} (S : Database) (at : ℕ) (token : Name) (o n : KnownPart) (count limit : ℕ) (r : Result Bool E) → count ≤ length o.stack.items
    → has_byte question_mark token ≡ false → Takes S at token count → o.left + length o.tokens ≡ limit
    → IfOk r (λ was. MatchBool was (CitesLast token count (known_of o) (known_of n)) ((o.left ≡ 0) × (n ≡ o)))
    → IfOk r (λ was. MatchBool was (KnowsToken S at token (known_of o) (known_of n)) (IsEnd S at limit token (known_of o) × (n ≡ o)))
citation-goes S at token o n count limit (Err e) few plain takes room h = tt
citation-goes S at token o n count limit (Ok true) few plain takes room h = citation-known S at token (known_of o) (known_of n) count few h plain takes
citation-goes S at token o n count limit (Ok false) few plain takes room h = (at_limit (let none = h.0 in omega (arith, none, room)), h.1)

-- ---- a label

module _ (S : Database) (at i : ℕ) (label : Name) (there : (s : Stmt) × Carries S i s label) where
  carried : (t : Stmt) → stmt_at S i ≡ Some t → Carries S i t label
  carried t stands = subst (λ r. Carries S i r label) (some-same there.1.stands stands) there.1

  pub hypothesis-takes : ((t : Stmt) × IsHypothesis S at i t) → Takes S at label 0
  hypothesis-takes active = of_hypothesis i active.0 (carried active.0 active.1.stands) active.1 refl

  pub assertion-takes : (count : ℕ) (t : Stmt) → HasAssertion S i t → i < at → count ≡ length (hypotheses (before S i) t) → Takes S at label count
  assertion-takes count t has less all = of_assertion i t (carried t has.0) (record { earlier = less; assertion = has.1 }) all

  pub nothing-takes : ((t : Stmt) → stmt_at S i ≡ Some t → (IsHypothesis S at i t → ⊥) × (i < at → is_assertion t ≡ true → ⊥)) → IsUncitable S at label
  nothing-takes none =
      let n = none there.0 there.1.stands in
      not_there i there.0 there.1 n.0 (λ h. n.1 h.earlier h.assertion)

-- ---- the part so far

module _ (S : Database) (at limit : ℕ) (tokens front rest words : List Name) (token : Name) (whole : front ++ rest ≡ tokens) where
  pub part-on : rest ≡ token ∷ words → (front ++ token ∷ []) ++ words ≡ tokens
  part-on some = append_assoc front (token ∷ []) words ∙ (ap (λ r. front ++ r) (sym some) ∙ whole)

  pub part-over : (part : KnownPart) → KnowsTokens S at front (known_of part) → rest ≡ [] → IsKnownPart S at tokens limit part
  part-over part knows over = record {
    front = front;
    rest = [];
    whole = sym whole ∙ ap (λ r. front ++ r) over;
    knows = knows;
    ends = λ token after e. none-more e;
  }
    where
      none-more : {T : Type 0} {t : Name} {after : List Name} → [] ≡ t ∷ after → T
      none-more e = absurd (bad e)
        where
          bad : {t : Name} {after : List Name} → [] ≡ t ∷ after → ⊥
          bad e = cc

  pub part-ends : (part : KnownPart) → KnowsTokens S at front (known_of part) → rest ≡ token ∷ words → IsEnd S at limit token (known_of part) → IsKnownPart S at tokens limit part
  part-ends part knows some end = record {
    front = front;
    rest = rest;
    whole = sym whole;
    knows = knows;
    ends = λ other after e. subst (λ t. IsEnd S at limit t (known_of part)) (same other after (sym some ∙ e)) end;
  }
    where
      same : (other : Name) (after : List Name) → token ∷ words ≡ other ∷ after → token ≡ other
      same other after e = cc
