-- Each list of tokens reads as statements, or has one misplaced token: the one at which the machine
-- of `ReaderStates` stops.
use Rattle.mm_read.proofs.Words.{◌≡◌, ℕ, ◌+◌, ◌-◌, ◌<◌, ◌≤◌, zero, suc, Bool, true, false, ◌⊎◌, List, [], ◌∷◌, ◌++◌, length, take, Option, Some, None, list_all, option_and_then, sym, ◌∙◌, ap, arith, refl, subst, inl, inr, append_assoc, ltb-true, ltb-false, nat_lt, append-nil, take_all, take-append_seam, take-append-add, same_Some, Name, Database, AreShaped, is_shaped, tokens_of, IsStatementsPrefix, IsShapeFault}
use Rattle.mm_read.specs.Laws as laws
use Rattle.mm_read.proofs.ReaderStates.{ReaderState, between, labelled, listing, floating, proving, step, go, go-append, go_back, can_go_on}
use Rattle.mm_read.proofs.ReaderRuns.{go-tokens_of}

-- tokens with which a list of statements begins
module _ (xs rest : List Name) (S : Database) (shaped : list_all is_shaped S ≡ true) (whole : tokens_of S ≡ xs ++ rest) where
  -- after them, the rest of the tokens brings the machine back to between statements
  goes_over : option_and_then (λ p. go p rest) (go between xs) ≡ Some between
  goes_over = sym (go-append between xs rest) ∙ (ap (go between) (sym whole ∙ sym (append-nil (tokens_of S))) ∙ go-tokens_of S [] shaped)

  -- so the machine does not stop at them
  no_stop : go between xs ≡ None → ⊥
  no_stop e = none (sym goes_over ∙ ap (option_and_then (λ p. go p rest)) e)
    where
      none : ◌≡◌ {A = Option ReaderState} (Some between) None → ⊥
      none bad = cc

-- a token after those that are done is the first of what was left
one_more : (done rest : List Name) (t : Name) → (done ++ t ∷ []) ++ rest ≡ done ++ t ∷ rest
one_more done rest t = append_assoc done (t ∷ []) rest

-- a token at which the machine stops is misplaced
pub stops_at : (done rest : List Name) (t : Name) (p : ReaderState) → go between done ≡ Some p → step p t ≡ None → IsShapeFault (done ++ t ∷ rest) (length done + 1)
stops_at done rest t p e stop = record {
  none = λ S hS is. no_stop (done ++ t ∷ []) rest S hS (is ∙ sym (one_more done rest t)) stopped;
  before = subst IsStatementsPrefix (sym first) (can_go_on done p e);
  here = inl (λ on. no_stop (done ++ t ∷ []) on.rest on.statements on.shaped (on.whole ∙ ap (λ r. r ++ on.rest) upto) stopped);
}
  where
    stopped : go between (done ++ t ∷ []) ≡ None
    stopped = go-append between done (t ∷ []) ∙ (ap (option_and_then (λ q. go q (t ∷ []))) e ∙ ap (option_and_then (λ q. go q [])) stop)

    first : take (length done + 1 - 1) (done ++ t ∷ rest) ≡ done
    first = ap (λ n. take n (done ++ t ∷ rest)) (omega arith) ∙ take-append_seam done (t ∷ rest)

    upto : take (length done + 1) (done ++ t ∷ rest) ≡ done ++ t ∷ []
    upto = take-append-add done (t ∷ rest) 1

-- if the tokens end inside a statement, the token after the last one is missing
pub ends_inside : (done : List Name) (p : ReaderState) → go between done ≡ Some p → (p ≡ between → ⊥) → IsShapeFault done (length done + 1)
ends_inside done p e inside = record {
  none = λ S hS is. inside (same_Some p between (sym e ∙ (ap (go between) (sym is ∙ sym (append-nil (tokens_of S))) ∙ go-tokens_of S [] hS)));
  before = subst IsStatementsPrefix (sym first) (can_go_on done p e);
  here = inr refl;
}
  where
    first : take (length done + 1 - 1) done ≡ done
    first = ap (λ n. take n done) (omega arith) ∙ (ap (take (length done)) (sym (append-nil done)) ∙ take-append_seam done [])

-- ---- statements or a fault

abbrev Answer : List Name → Type 0
Answer tokens = ((S : Database) × AreShaped S × (tokens_of S ≡ tokens)) ⊎ ((token : ℕ) × IsShapeFault tokens token)

-- where the tokens end, they are statements, or the fault is one after the last
at_end : (done : List Name) (p : ReaderState) → go between done ≡ Some p → Answer done
at_end done between e = let back = go_back between done between [] e ([], refl, refl) in inl (back.0, back.1, back.2 ∙ append-nil done)
at_end done labelled e = inr (length done + 1, ends_inside done labelled e (λ bad. cc))
at_end done (listing n) e = inr (length done + 1, ends_inside done (listing n) e (λ bad. cc))
at_end done (floating n) e = inr (length done + 1, ends_inside done (floating n) e (λ bad. cc))
at_end done (proving n) e = inr (length done + 1, ends_inside done (proving n) e (λ bad. cc))

-- token by token, the machine reaches the end, or stops at the fault
walk : (rest done : List Name) (p : ReaderState) → go between done ≡ Some p → Answer (done ++ rest)
walk [] done p e = subst Answer (sym (append-nil done)) (at_end done p e)
walk (t ∷ rest) done p e = by (λ q is. walk rest (done ++ t ∷ []) q is) (step p t) refl
  where
    more : (o : Option ReaderState) → step p t ≡ o → go between (done ++ t ∷ []) ≡ option_and_then (λ q. go q []) o
    more o is = go-append between done (t ∷ []) ∙ (ap (option_and_then (λ q. go q (t ∷ []))) e ∙ ap (option_and_then (λ q. go q [])) is)

    by : ((q : ReaderState) → go between (done ++ t ∷ []) ≡ Some q → Answer ((done ++ t ∷ []) ++ rest)) → (o : Option ReaderState) → step p t ≡ o → Answer (done ++ t ∷ rest)
    by on None is = inr (length done + 1, stops_at done rest t p e is)
    by on (Some q) is = subst Answer (one_more done rest t) (on q (more (Some q) is))

-- the law: tokens read as statements or have a shape fault
pub statements_or_fault : laws.StatementsOrFault
statements_or_fault tokens = walk tokens [] between refl

-- ---- at most one misplaced token

-- if tokens begin a list of statements, so do fewer of them
pub goes_on_before : (xs ys : List Name) → IsStatementsPrefix (xs ++ ys) → IsStatementsPrefix xs
goes_on_before xs ys on = record { statements = on.statements; rest = ys ++ on.rest; shaped = on.shaped; whole = on.whole ∙ append_assoc xs ys on.rest }

-- the first elements of a list begin with fewer of them
take_split : {A : Type 0} (t u : ℕ) (xs : List A) → t ≤ u → (ys : List A) × (take u xs ≡ take t xs ++ ys)
take_split zero u xs h = (take u xs, refl)
take_split (suc t) zero xs h = absurd (omega (arith, h))
take_split (suc t) (suc u) [] h = ([], refl)
take_split {A} (suc t) (suc u) (x ∷ xs) h =
    let rest : (ys : List A) × (take u xs ≡ take t xs ++ ys) = take_split t u xs (omega (arith, h)) in
    (rest.0, ap (λ r. x ∷ r) rest.1)

-- neither of two misplaced tokens comes before the other
not_earlier : (tokens : List Name) (t u : ℕ) → IsShapeFault tokens t → IsShapeFault tokens u → t < u → ⊥
not_earlier tokens t u a b earlier = by_here a.here
  where
    on : IsStatementsPrefix (take t tokens)
    on = let part : (ys : List Name) × (take (u - 1) tokens ≡ take t tokens ++ ys) = take_split t (u - 1) tokens (omega arith) in
        goes_on_before (take t tokens) part.0 (subst IsStatementsPrefix part.1 b.before)

    past : t ≡ length tokens + 1 → (IsStatementsPrefix (take u tokens) → ⊥) ⊎ (u ≡ length tokens + 1) → ⊥
    past is (inl stop) = stop (subst IsStatementsPrefix (take_all (u - 1) tokens (omega arith) ∙ sym (take_all u tokens (omega arith))) b.before)
    past is (inr at) = omega arith

    by_here : (IsStatementsPrefix (take t tokens) → ⊥) ⊎ (t ≡ length tokens + 1) → ⊥
    by_here (inl stop) = stop on
    by_here (inr is) = past is b.here

-- the law: tokens have at most one shape fault
pub one_shape_fault : laws.OneShapeFault
one_shape_fault tokens t u a b = by (nat_lt t u) (nat_lt u t) refl refl
  where
    by : (x y : Bool) → nat_lt t u ≡ x → nat_lt u t ≡ y → t ≡ u
    by true y e f = absurd (not_earlier tokens t u a b (ltb-true t u e))
    by false true e f = absurd (not_earlier tokens u t b a (ltb-true u t f))
    by false false e f = omega (arith, ltb-false t u e, ltb-false u t f)
