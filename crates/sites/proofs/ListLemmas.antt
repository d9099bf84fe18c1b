-- Lists that positions are added to.
use Rattle.sites.proofs.ReferenceWords.{◌≡◌, ◌≢◌, ◌⊎◌, ◌↔◌, ℕ, zero, suc, ◌+◌, ◌-◌, ◌<◌, ◌≤◌, List, [], ◌∷◌, ◌++◌, length, take, get_or, slice_set, Some, slice_get, Result, Ok, Err, OnOk, sym, ◌∙◌, ap, subst, refl, arith, inl, inr, take_all, cases_eq, cases_lt, take_more, get_or_past, get_or-set_other, get_or-set_same, length-set, slice_get-get_or, Ascends, AreAbove, In, ListsExactly, HasMore, HoldsForSome, in-place, place-in, last-in, last-out, those-by, Rises, IsIn, ArePositionsWhere, IsRoundTable}
use Rattle.frame.proofs.Words.{◌==◌, ◌||◌, true, list_any, or_cases, or_right, true≢false}
use Rattle.std.proofs.lemmas.Bool.Decides.{nat_tests}

pub has-nothing : (P : ℕ → Type 0) (list : List ℕ) → ((p : ℕ) → P p → ⊥) → HasMore P list list
has-nothing P list none = record { stays = λ p i. i; all = λ p q. absurd (none p q); only = λ p i. inl i }

pub has-as : (P Q : ℕ → Type 0) (old new : List ℕ) → ((p : ℕ) → P p → Q p) → ((p : ℕ) → Q p → P p) → HasMore P old new → HasMore Q old new
has-as P Q old new f g h = record { stays = h.stays; all = λ p q. h.all p (g p q); only = λ p i. elim (h.only p i) [ inl o ↦ inl o | inr x ↦ inr (f p x) ] }

pub has-both : (P Q : ℕ → Type 0) (a b c : List ℕ) → HasMore P a b → HasMore Q b c → HasMore (λ p. P p ⊎ Q p) a c
has-both P Q a b c h k = record {
  stays = λ p i. k.stays p (h.stays p i);
  all = λ p q. elim q [ inl x ↦ k.stays p (h.all p x) | inr y ↦ k.all p y ];
  only = λ p i. elim (k.only p i) [ inl j ↦ elim (h.only p j) [ inl o ↦ inl o | inr x ↦ inr (inl x) ] | inr y ↦ inr (inr y) ];
}

pub has-one : (q : ℕ) (old new : List ℕ) → new ≡ old ++ q ∷ [] → HasMore (λ p. p ≡ q) old new
has-one q old new is = subst (HasMore (λ p. p ≡ q) old) (sym is) (record {
  stays = λ p i. last-in p q old (inr i);
  all = λ p e. last-in p q old (inl e);
  only = λ p i. elim (last-out p q old i) [ inl e ↦ inr e | inr o ↦ inl o ];
})

-- ---- the first positions

pub in-more : (positions : List ℕ) (i p : ℕ) → i < length positions → In p (take (i + 1) positions) → In p (take i positions) ⊎ (p ≡ get_or positions i 0)
in-more positions i p h is =
    elim (last-out p (get_or positions i 0) (take i positions) (subst (In p) (take_more positions i 0 h) is)) [ inl e ↦ inr e | inr o ↦ inl o ]

pub more-in : (positions : List ℕ) (i p : ℕ) → i < length positions → In p (take i positions) ⊎ (p ≡ get_or positions i 0) → In p (take (i + 1) positions)
more-in positions i p h is =
    subst (In p) (sym (take_more positions i 0 h)) (last-in p (get_or positions i 0) (take i positions) (elim is [ inl o ↦ inr o | inr e ↦ inl e ]))

pub has-next : (positions : List ℕ) (i : ℕ) (a b c : List ℕ) → i < length positions
    → HasMore (λ p. In p (take i positions)) a b → HasMore (λ p. p ≡ get_or positions i 0) b c → HasMore (λ p. In p (take (i + 1) positions)) a c
has-next positions i a b c h m n =
    has-as (λ p. In p (take i positions) ⊎ (p ≡ get_or positions i 0)) (λ p. In p (take (i + 1) positions)) a c
    (λ p q. more-in positions i p h q) (λ p q. in-more positions i p h q)
    (has-both (λ p. In p (take i positions)) (λ p. p ≡ get_or positions i 0) a b c m n)

pub has-all : (positions : List ℕ) (i : ℕ) (a b : List ℕ) → length positions ≤ i → HasMore (λ p. In p (take i positions)) a b → HasMore (λ p. In p positions) a b
has-all positions i a b h m = subst (λ (ps : List ℕ). HasMore (λ p. In p ps) a b) (take_all i positions h) m

module _ (R : ℕ → ℕ → Type 0) (positions : List ℕ) (i : ℕ) where
  pub some-more : (p : ℕ) → i < length positions → HoldsForSome R (take (i + 1) positions) p → HoldsForSome R (take i positions) p ⊎ R (get_or positions i 0) p
  some-more p h is =
      elim (in-more positions i is.one h is.among) [
        | inl o ↦ inl (record { one = is.one; among = o; is = is.is })
        | inr e ↦ inr (subst (λ q. R q p) e is.is)
      ]

  pub more-some : (p : ℕ) → i < length positions → HoldsForSome R (take i positions) p ⊎ R (get_or positions i 0) p → HoldsForSome R (take (i + 1) positions) p
  more-some p h is =
      elim is [
        | inl o ↦ record { one = o.one; among = more-in positions i o.one h (inl o.among); is = o.is }
        | inr r ↦ record { one = get_or positions i 0; among = more-in positions i (get_or positions i 0) h (inr refl); is = r }
      ]

  pub has-some-next : (a b c : List ℕ) → i < length positions → HasMore (HoldsForSome R (take i positions)) a b → HasMore (R (get_or positions i 0)) b c → HasMore (HoldsForSome R (take (i + 1) positions)) a c
  has-some-next a b c h m n =
      has-as (λ p. HoldsForSome R (take i positions) p ⊎ R (get_or positions i 0) p) (HoldsForSome R (take (i + 1) positions)) a c
      (λ p q. more-some p h q) (λ p q. some-more p h q)
      (has-both (HoldsForSome R (take i positions)) (R (get_or positions i 0)) a b c m n)

-- no number is among no positions
pub some-none : (R : ℕ → ℕ → Type 0) (p : ℕ) → HoldsForSome R [] p → ⊥
some-none R p is = absurd is.among

-- the sorted list of all that was added to an empty list
pub those-collected : (P : ℕ → Type 0) (none new list : List ℕ) → none ≡ [] → HasMore P none new → ListsExactly (λ p. In p new) list → ListsExactly P list
those-collected P none new list is h those =
    those-by those (λ p i. elim (h.only p i) [ inl o ↦ absurd (subst (In p) is o) | inr x ↦ x ]) (λ p x. h.all p x)

-- ---- ascending lists

-- no position is in an ascending list of greater positions
above-in : (p q : ℕ) (ps : List ℕ) → AreAbove q ps → In p ps → q < p
above-in p q [] above i = absurd i
above-in p q (x ∷ ps) above (inl e) = let h = above.0 in omega (arith, h, e)
above-in p q (x ∷ ps) above (inr i) = above-in p q ps above.1 i

pub next-apart : (ps : List ℕ) (i : ℕ) → Ascends ps → i < length ps → In (get_or ps i 0) (take i ps) → ⊥
next-apart [] i asc h is = omega (arith, h)
next-apart (q ∷ ps) zero asc h is = is
next-apart (q ∷ ps) (suc i) asc h is = by (next-apart ps i asc.1 within) is
  where
    within : i < length ps
    within = omega (arith, h)

    later : In (get_or ps i 0) ps
    later = place-in ps i (get_or ps i 0) (slice_get-get_or ps i 0 within)

    by : (In (get_or ps i 0) (take i ps) → ⊥) → (get_or ps i 0 ≡ q) ⊎ In (get_or ps i 0) (take i ps) → ⊥
    by go (inl e) = let h = above-in (get_or ps i 0) q ps asc.0 later in omega (arith, h, e)
    by go (inr j) = go j

rises-from : (above : ℕ) (ps : List ℕ) → AreAbove above ps → Ascends ps → Rises above ps
rises-from above [] h asc = tt
rises-from above (p ∷ ps) h asc = (h.0, rises-from p ps asc.0 asc.1)

above-zero : (ps : List ℕ) → ((p : ℕ) → In p ps → 0 < p) → AreAbove 0 ps
above-zero [] h = tt
above-zero (p ∷ ps) h = (h p (inl refl), above-zero ps (λ q i. h q (inr i)))

-- an ascending list of the positions above 0 with a property has the form of the contracts
pub those-where : (P : ℕ → Type 0) (list : List ℕ) → ListsExactly P list → ((p : ℕ) → P p → 0 < p) → ArePositionsWhere P list
those-where P list those some = record {
  rising = rises-from 0 list (above-zero list (λ p i. some p (those.only p i))) those.ascends;
  holding = λ a. ((λ i. those.only a (place-in list i.0 a i.1)), λ p. in-place a list (those.all a p));
}

-- a list that ascends still does when a greater number is appended
pub ascends-last : (ps : List ℕ) (q : ℕ) → Ascends ps → ((p : ℕ) → In p ps → p < q) → Ascends (ps ++ q ∷ [])
ascends-last [] q asc below = (tt, tt)
ascends-last (p ∷ ps) q asc below = (above-last ps asc.0, ascends-last ps q asc.1 (λ x i. below x (inr i)))
  where
    above-last : (xs : List ℕ) → AreAbove p xs → AreAbove p (xs ++ q ∷ [])
    above-last [] a = (below p (inl refl), tt)
    above-last (x ∷ xs) a = (a.0, above-last xs a.1)

-- ---- the list and the rounds of a collector

pub in-at : (ps : List ℕ) (i : ℕ) → i < length ps → In (get_or ps i 0) ps
in-at ps i h = place-in ps i (get_or ps i 0) (slice_get-get_or ps i 0 h)

pub has-some-all : (R : ℕ → ℕ → Type 0) (positions : List ℕ) (i : ℕ) (a b : List ℕ) → length positions ≤ i → HasMore (HoldsForSome R (take i positions)) a b → HasMore (HoldsForSome R positions) a b
has-some-all R positions i a b h m = subst (λ (ps : List ℕ). HasMore (HoldsForSome R ps) a b) (take_all i positions h) m

pub on-ok : {T E A B : Type 0} (r : Result T E) → (A → B) → OnOk r A → OnOk r B
on-ok (Ok v) f h = f h
on-ok (Err e) f h = tt

-- a position that was added in this round is already in the list
pub has_already : (list last_rounds : List ℕ) (round position : ℕ) → IsRoundTable list last_rounds round → get_or last_rounds position 0 ≡ round → HasMore (λ p. p ≡ position) list list
has_already list last_rounds round position are here = record {
  stays = λ p i. i;
  all = λ p e. subst (λ q. In q list) (sym e) (are.listed position here);
  only = λ p i. inl i;
}

pub has_pushed : (position : ℕ) (old new : List ℕ) → new ≡ old ++ position ∷ [] → HasMore (λ p. p ≡ position) old new
has_pushed position old new is = has-one position old new is

-- a position is added to the list, with its round
pub rounds_more : (list last_rounds new news : List ℕ) (round position : ℕ) → IsRoundTable list last_rounds round → new ≡ list ++ position ∷ [] → news ≡ slice_set last_rounds position round → IsRoundTable new news round
rounds_more list last_rounds new news round position are is set = record {
  counts_from_one = are.counts_from_one;
  not_later = λ k. past k (cases_eq k position);
  listed = λ k e. among k e (cases_eq k position);
}
  where
    other : (k : ℕ) → (k ≡ position → ⊥) → get_or news k 0 ≡ get_or last_rounds k 0
    other k apart = ap (λ l. get_or l k 0) set ∙ get_or-set_other last_rounds position k round 0 apart

    same : (k : ℕ) → k ≡ position → (get_or news k 0 ≡ round) ⊎ (get_or news k 0 ≡ 0)
    same k e = elim (cases_lt position (length last_rounds)) [
      | inl less ↦ inl (ap (λ l. get_or l k 0) set ∙ (ap (λ j. get_or (slice_set last_rounds position round) j 0) e ∙ get_or-set_same last_rounds position round 0 less))
      | inr more ↦ inr (ap (λ l. get_or l k 0) set ∙ get_or_past (slice_set last_rounds position round) k 0 (let l = length-set last_rounds position round in omega (arith, l, more, e)))
    ]

    past : (k : ℕ) → (k ≡ position) ⊎ (k ≡ position → ⊥) → get_or news k 0 ≤ round
    past k (inl e) = elim (same k e) [ inl r ↦ omega (arith, r) | inr z ↦ omega (arith, z) ]
    past k (inr apart) = let p = are.not_later k in let o = other k apart in omega (arith, p, o)

    among : (k : ℕ) → get_or news k 0 ≡ round → (k ≡ position) ⊎ (k ≡ position → ⊥) → In k new
    among k e (inl here) = subst (In k) (sym is) (last-in k position list (inl here))
    among k e (inr apart) = subst (In k) (sym is) (last-in k position list (inr (are.listed k (sym (other k apart) ∙ e))))

-- a position is found in a list by a test exactly if it is in it
pub in-has : (p : ℕ) (xs : List ℕ) → In p xs → list_any (λ q. q == p) xs ≡ true
in-has p [] i = absurd i
in-has p (x ∷ xs) (inl e) = let t : (x == p) ≡ true = grind (arith, nat_tests, e) in ap (λ b. b || list_any (λ q. q == p) xs) t
in-has p (x ∷ xs) (inr i) = or_right (x == p) (list_any (λ q. q == p) xs) (in-has p xs i)

pub has-in : (p : ℕ) (xs : List ℕ) → list_any (λ q. q == p) xs ≡ true → In p xs
has-in p [] h = absurd (true≢false (sym h))
has-in p (x ∷ xs) h = elim (or_cases (x == p) (list_any (λ q. q == p) xs) h) [
  | inl here ↦ let same : p ≡ x = grind (arith, nat_tests) in inl same
  | inr there ↦ inr (has-in p xs there)
]
