-- Collecting positions: the steps of the loops.
use Rattle.frame.proofs.Words.{sym, ◌∙◌, ap, subst, arith, inl, inr, ⊎_elim, true≢false, cond, false, nat_cmp, ◌≡◌, ℕ, suc, ◌+◌, ◌-◌, ◌<◌, ◌≤◌, Bool, true, ◌⊎◌, List, [], ◌∷◌, ◌++◌, length, get_or, slice_get, eqb, Some, refl, ⊎_map, and_parts, Contains, dedup, slice_get_within, slice_get_read, get_or_from_slice_get, is_active, Storage, Database, Name, Kind, Float, In, Ascends, ListsExactly, HasMore, HoldsForSome, IsLastFloat, stmt_by, is_float_kind, names_in, labels_in, statements_of, IsPlain, Contains-dedup_nat, Contains-from_dedup, Contains-permutation, IsPermutation-sym, IsStrictlyIncreasing-dedup, IsPermutation, IsSorted, IsStrictlyIncreasing, take, take_all, drop, length-take-le, take-get, stays_open, IsFloatAfter}
use Rattle.frame.proofs.AscendingLists.{in-place, place-in, above-less}
use Rattle.frame.proofs.StoredReading.{get-stmt}
use Rattle.frame.proofs.BlockWalkLemmas.{active-stays}
use Rattle.frame.proofs.FloatLemmas.{last-same}

-- a `$f` neither opens nor closes a block
float-plain : (kind : Kind) (label : Name) (names : List Name) → is_float_kind kind ≡ true → IsPlain (Some (stmt_by kind label names))
float-plain Float label names h = (refl, refl)
float-plain kind label names h = cc

pub float-stands : (k : Storage) (i c p : ℕ) → IsLastFloat c 1 (take i k.entries) p → (1 ≤ p) × (p ≤ i) × IsPlain (slice_get (statements_of k) (p - 1))
float-stands k i c p l =
    let at = l.is in
    let there = take-get i l.place k.entries l.entry l.found in
    let lt = there.0 in
    let back : p - 1 ≡ l.place = omega (arith, at) in
    let stands = ap (slice_get (statements_of k)) back ∙ get-stmt (names_in k) (labels_in k) k.entries l.place l.entry there.1 in
    (omega (arith, at), omega (arith, at, lt), subst IsPlain (sym stands) (float-plain l.entry.kind _ _ (and_parts (is_float_kind l.entry.kind) _ l.passes).0))

-- ---- members of a list

in-left : (p : ℕ) (xs ys : List ℕ) → In p xs → In p (xs ++ ys)
in-left p [] ys i = absurd i
in-left p (x ∷ xs) ys (inl e) = inl e
in-left p (x ∷ xs) ys (inr i) = inr (in-left p xs ys i)

in-right : (p : ℕ) (xs ys : List ℕ) → In p ys → In p (xs ++ ys)
in-right p [] ys i = i
in-right p (x ∷ xs) ys i = inr (in-right p xs ys i)

pub last-in : (p q : ℕ) (xs : List ℕ) → (p ≡ q) ⊎ In p xs → In p (xs ++ q ∷ [])
last-in p q xs = ⊎_elim (λ e. in-right p xs (q ∷ []) (inl e)) (λ i. in-left p xs (q ∷ []) i)

pub last-out : (p q : ℕ) (xs : List ℕ) → In p (xs ++ q ∷ []) → (p ≡ q) ⊎ In p xs
last-out p q [] (inl e) = inl e
last-out p q [] (inr i) = absurd i
last-out p q (x ∷ xs) (inl e) = inr (inl e)
last-out p q (x ∷ xs) (inr i) = ⊎_map (λ e. e) inr (last-out p q xs i)

pub in-contains : (p : ℕ) (xs : List ℕ) → In p xs → Contains xs p
in-contains p xs i = let r = in-place p xs i in (r.0, slice_get_within xs r.0 p r.1, get_or_from_slice_get xs r.0 p p r.1)

pub contains-in : (p : ℕ) (xs : List ℕ) → Contains xs p → In p xs
contains-in p xs c = place-in xs c.0 p (slice_get_read xs (length xs) c.0 p refl c.1 (sym c.2))

rises-by : (xs : List ℕ) → ((k : ℕ) → suc k < length xs → get_or xs k 0 < get_or xs (suc k) 0) → Ascends xs
rises-by [] r = tt
rises-by (x ∷ []) r = (tt, tt)
rises-by (x ∷ y ∷ xs) r =
    let first : x < y = r 0 (omega arith) in
    let rest = rises-by (y ∷ xs) (λ k lt. r (suc k) (omega (arith, lt))) in
    ((first, above-less x y xs first rest.0), rest)

rises-ascends : (xs : List ℕ) → IsStrictlyIncreasing xs → Ascends xs
rises-ascends xs r = rises-by xs (λ k lt. let e : k + 1 ≡ suc k = omega arith in subst (λ m. get_or xs k 0 < get_or xs m 0) e (r k (omega (arith, lt))))

-- a list with exactly those for which P holds has exactly those for which Q holds, if P and Q are
-- equivalent
pub those-by : {P Q : ℕ → Type 0} {list : List ℕ} → ListsExactly P list → ((p : ℕ) → P p → Q p) → ((p : ℕ) → Q p → P p) → ListsExactly Q list
those-by those f g = record { ascends = those.ascends; all = λ p q. those.all p (g p q); only = λ p i. f p (those.only p i) }

-- a list that is sorted and then has each element once is in ascending order, with the same members
pub ordered : (xs ys zs : List ℕ) → IsPermutation xs ys → IsSorted nat_cmp ys → zs ≡ dedup eqb ys → ListsExactly (λ p. In p xs) zs
ordered xs ys zs moved sorted is = subst (ListsExactly (λ p. In p xs)) (sym is) (record {
  ascends = rises-ascends (dedup eqb ys) (IsStrictlyIncreasing-dedup ys sorted);
  all = λ p i. contains-in p (dedup eqb ys) (Contains-dedup_nat ys p (Contains-permutation xs ys p moved (in-contains p xs i)));
  only = λ p i. contains-in p xs (Contains-permutation ys xs p (IsPermutation-sym xs ys moved) (Contains-from_dedup eqb ys p (in-contains p (dedup eqb ys) i)));
})

-- appending q and then others adds q and these
pub pushed-more : {P : ℕ → Type 0} {q : ℕ} {old pushed new : List ℕ} → pushed ≡ old ++ q ∷ [] → HasMore P pushed new → HasMore (λ p. (p ≡ q) ⊎ P p) old new
pushed-more {P = P} {q = q} {old = old} {new = new} is more = let put = subst (λ l. HasMore P l new) is more in
    record { stays = λ p i. put.stays p (in-left p old (q ∷ []) i); all = λ p. ⊎_elim (λ e. put.stays p (last-in p q old (inl e))) (put.all p); only = λ p i. ⊎_elim (λ j. ⊎_elim (λ e. inr (inl e)) inl (last-out p q old j)) (λ f. inr (inr f)) (put.only p i) }

-- ---- the `$f` of a symbol

-- a statement is active after the statements before `at` exactly if it is active at `at`
active-cut : (S : Database) (q at : ℕ) → 1 ≤ q → q < at → at ≤ length S + 1 → is_active (take (at - 1) S) q (length (take (at - 1) S) + 1) ≡ is_active S q at
active-cut S q at one lt le =
    let T = take (at - 1) S in
    let n : length T ≡ at - 1 = length-take-le (at - 1) S (omega (arith, le)) in
    active-stays T q (length T + 1) one (omega (arith, n, lt)) ∙ (ap (λ D. stays_open 0 (drop q D)) (take_all (length T + 1 - 1) T (omega arith)) ∙ sym (active-stays S q at one lt))

-- the position of the last `$f` of a symbol is appended exactly if it is active
pub float-more : (k : Storage) (c q at : ℕ) (list new : List ℕ) (b : Bool) → at ≤ length (statements_of k) + 1 → IsLastFloat c 1 (take (at - 1) k.entries) q → b ≡ is_active (statements_of k) q at → new ≡ cond b (list ++ q ∷ []) list
    → HasMore (IsFloatAfter k (at - 1) c) list new
float-more k c q at list new b within last stands is =
    let f = float-stands k (at - 1) c q last in
    let one = f.0 in let low = f.1 in
    subst (HasMore (IsFloatAfter k (at - 1) c) list) (sym is) (by b (active-cut (statements_of k) q at one (omega (arith, one, low)) within ∙ sym stands))
  where
    T : Database
    T = take (at - 1) (statements_of k)

    by : (b : Bool) → is_active T q (length T + 1) ≡ b → HasMore (IsFloatAfter k (at - 1) c) list (cond b (list ++ q ∷ []) list)
    by true h = record {
      stays = λ p i. last-in p q list (inr i);
      all = λ p f. last-in p q list (inl (last-same f.last last));
      only = λ p i. ⊎_elim (λ e. inr (subst (IsFloatAfter k (at - 1) c) (sym e) (record { last = last; stands = h }))) inl (last-out p q list i);
    }
    by false h = record { stays = λ p i. i; all = λ p f. absurd (true≢false (sym f.stands ∙ (ap (λ n. is_active T n (length T + 1)) (last-same f.last last) ∙ h))); only = λ p i. inl i }

-- ---- the items found for each element of a list, one after another

-- the new list with the items for the elements left has the same items as the old list with those
-- for all elements
pub record HasLeft (P : ℕ → ℕ → Type 0) (all left old new : List ℕ) : Type 0 where
  pub there : (p : ℕ) → In p old ⊎ HoldsForSome P all p → In p new ⊎ HoldsForSome P left p
  pub back : (p : ℕ) → In p new ⊎ HoldsForSome P left p → In p old ⊎ HoldsForSome P all p

-- after the items for q are appended, the items for the other elements are left
pub left-step : {P : ℕ → ℕ → Type 0} {all whole left : List ℕ} {q : ℕ} {old mid new : List ℕ} → ((x : ℕ) → In x whole → (x ≡ q) ⊎ In x left) → ((x : ℕ) → (x ≡ q) ⊎ In x left → In x whole)
    → HasMore (P q) mid new → HasLeft P all whole old mid → HasLeft P all left old new
left-step {P = P} {whole = whole} {left = left} {q = q} {mid = mid} {new = new} split join more h = record { there = λ p i. forth p (h.there p i); back = λ p i. h.back p (before p i) }
  where
    forth : (p : ℕ) → In p mid ⊎ HoldsForSome P whole p → In p new ⊎ HoldsForSome P left p
    forth p (inl i) = inl (more.stays p i)
    forth p (inr s) =
        ⊎_elim (λ e. inl (more.all p (subst (λ x. P x p) e s.is))) (λ i. inr (record { one = s.one; among = i; is = s.is })) (split s.one s.among)

    before : (p : ℕ) → In p new ⊎ HoldsForSome P left p → In p mid ⊎ HoldsForSome P whole p
    before p (inl i) = ⊎_map (λ j. j) (λ f. record { one = q; among = join q (inl refl); is = f }) (more.only p i)
    before p (inr s) = inr (record { one = s.one; among = join s.one (inr s.among); is = s.is })

-- if no element is left, the new list has exactly the old items and those for all elements
pub left-none : {P : ℕ → ℕ → Type 0} {all left old new : List ℕ} → left ≡ [] → HasLeft P all left old new → HasMore (HoldsForSome P all) old new
left-none {P = P} {left = left} {new = new} none h = record { stays = λ p i. by p (h.there p (inl i)); all = λ p f. by p (h.there p (inr f)); only = λ p i. h.back p (inl i) }
  where
    by : (p : ℕ) → In p new ⊎ HoldsForSome P left p → In p new
    by p (inl i) = i
    by p (inr f) = absurd (subst (In f.one) none f.among)
