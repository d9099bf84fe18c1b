-- A table of slots by keys: a name that is put there is found, and a name that is not found is not
-- there.
use Rattle.names.proofs.Words.{◌≡◌, ◌≢◌, ℕ, zero, suc, ◌+◌, ◌<◌, ◌≤◌, ◌^◌, ◌⊎◌, List, [], ◌∷◌, ◌++◌, length, take, slice_get, Option, Some, None, IfSome, refl, sym, ◌∙◌, ap, subst, arith, inl, inr, slice_set, cases_lt, unwrap_or, replicate, length-set, length-replicate, get_or-replicate, slice_get_within, unwrap_or-slice_get, same_Some, Name, name_at, code_of, Slot, NO_NAME, MAX_PROBES, NameKeys, Overflow, code_in_overflow, key_of, half_of, slot_of, slot_index_of, IsProbedSlot, IsTaken, IsReachable, AreReachable, AreFound, AreUnused, IsFirstFreeSlot, IsPassed}
use Rattle.names.proofs.CodesLemmas.{code-absent}

same-slot : (slots : List Slot) (key step : ℕ) (s t : Slot) → IsProbedSlot slots key step s → IsProbedSlot slots key step t → s ≡ t
same-slot slots key step s t a b = same_Some _ _ (sym a ∙ b)

pub passed-one : (slots : List Slot) (names : List Name) (name : Name) (key step : ℕ) (t : Slot) → IsProbedSlot slots key step t → t.code ≢ NO_NAME → (t.half ≡ half_of key → t.code < length names → name_at names t.code ≢ name)
    → IsPassed slots names name key step
passed-one slots names name key step t at taken other s g =
    subst (λ (u : Slot). (u.code ≢ NO_NAME) × (u.half ≡ half_of key → u.code < length names → name_at names u.code ≢ name)) (same-slot slots key step t s at g) (taken, other)

no-name : (k n : ℕ) → k < n → n < 2 ^ 32 → k ≡ NO_NAME → ⊥
no-name k n p q e = omega (arith, p, q, e)

-- no name is this one, if it is not in the overflow and the search reached a slot without a code or
-- has tried all its slots
pub not-found : (slots : List Slot) (a : Overflow) (names : List Name) (name : Name) (key step : ℕ) → key ≡ key_of name → AreFound slots a names → length names < 2 ^ 32
    → ((i : ℕ) → i < step → IsPassed slots names name key i) → ((length slots ≤ step) ⊎ (MAX_PROBES ≤ step)) ⊎ ((s : Slot) × IsProbedSlot slots key step s × (s.code ≡ NO_NAME))
    → ((k : ℕ) → k < length names → name_at names k ≡ name → code_in_overflow a name ≢ Some k) → code_of names name ≡ None
not-found slots a names name key step own found few passed end other = code-absent names name none
  where
    none : (k : ℕ) → k < length names → name_at names k ≡ name → ⊥
    none k lt e = elim (found k lt) [
      | inl h ↦ in-table (subst (λ n. IsReachable slots n k) (ap key_of e ∙ sym own) h)
      | inr o ↦ other k lt e (ap (code_in_overflow a) (sym e) ∙ o)
    ]
      where
        in-table : IsReachable slots key k → ⊥
        in-table h = by end (cases_lt h.step step)
          where
            met : h.step < step → ⊥
            met p = (passed h.step p (slot_of key k) h.there).1 refl lt e

            past : (length slots ≤ step) ⊎ (MAX_PROBES ≤ step) → step ≤ h.step → ⊥
            past (inl all) p = let w = h.within in absurd (omega (arith, w, all, p))
            past (inr all) p = let w = h.near in absurd (omega (arith, w, all, p))

            by : ((length slots ≤ step) ⊎ (MAX_PROBES ≤ step)) ⊎ ((s : Slot) × IsProbedSlot slots key step s × (s.code ≡ NO_NAME)) → (h.step < step) ⊎ (step ≤ h.step) → ⊥
            by end (inl p) = met p
            by (inl all) (inr p) = past all p
            by (inr f) (inr p) = later f (cases_lt step h.step)
              where
                later : (s : Slot) × IsProbedSlot slots key step s × (s.code ≡ NO_NAME) → (step < h.step) ⊎ (h.step ≤ step) → ⊥
                later g (inl q) = h.before step q g.0 g.1 g.2
                later g (inr q) =
                    let same : h.step ≡ step = omega (arith, p, q) in
                    let there : IsProbedSlot slots key step (slot_of key k) = subst (λ i. IsProbedSlot slots key i (slot_of key k)) same h.there in
                    no-name k (length names) lt few (ap (λ (u : Slot). u.code) (same-slot slots key step (slot_of key k) g.0 there g.1) ∙ g.2)

-- the answer of the overflow is then the answer for the name
pub ended : (slots : List Slot) (a : Overflow) (names : List Name) (name : Name) (key step : ℕ) (r : Option ℕ) → key ≡ key_of name → AreFound slots a names → length names < 2 ^ 32
    → ((i : ℕ) → i < step → IsPassed slots names name key i) → ((length slots ≤ step) ⊎ (MAX_PROBES ≤ step)) ⊎ ((s : Slot) × IsProbedSlot slots key step s × (s.code ≡ NO_NAME))
    → IfSome r (λ n. code_of names name ≡ Some n) → (r ≡ None → (k : ℕ) → k < length names → name_at names k ≡ name → code_in_overflow a name ≢ Some k) → r ≡ code_of names name
ended slots a names name key step (Some n) own found few passed end some none = sym some
ended slots a names name key step None own found few passed end some none = sym (not-found slots a names name key step own found few passed end (none refl))

get-set_other : {A : Type 0} (xs : List A) (i n : ℕ) (v : A) → n ≢ i → slice_get (slice_set xs i v) n ≡ slice_get xs n
get-set_other [] i n v ne = refl
get-set_other (x ∷ xs) zero zero v ne = absurd (ne refl)
get-set_other (x ∷ xs) (suc i) zero v ne = refl
get-set_other (x ∷ xs) zero (suc n) v ne = refl
get-set_other (x ∷ xs) (suc i) (suc n) v ne = get-set_other xs i n v (λ e. ne (ap suc e))

get-set_same : {A : Type 0} (xs : List A) (i : ℕ) (v : A) → i < length xs → slice_get (slice_set xs i v) i ≡ Some v
get-set_same [] i v h = absurd (omega arith)
get-set_same (x ∷ xs) zero v h = refl
get-set_same (x ∷ xs) (suc i) v h = get-set_same xs i v (omega arith)

taken-set : (slots : List Slot) (at : ℕ) (new : Slot) (key step : ℕ) → new.code ≢ NO_NAME → IsTaken slots key step → IsTaken (slice_set slots at new) key step
taken-set slots at new key step ne taken s g = by (cases_lt place at) (cases_lt at place)
  where
    place : ℕ
    place = slot_index_of key step (length slots)

    g' : slice_get (slice_set slots at new) (slot_index_of key step (length slots)) ≡ Some s
    g' = ap (λ n. slice_get (slice_set slots at new) (slot_index_of key step n)) (sym (length-set slots at new)) ∙ g

    elsewhere : slot_index_of key step (length slots) ≢ at → s.code ≢ NO_NAME
    elsewhere q = taken s (sym (get-set_other slots at (slot_index_of key step (length slots)) new q) ∙ g')

    by : (slot_index_of key step (length slots) < at) ⊎ (at ≤ slot_index_of key step (length slots)) → (at < slot_index_of key step (length slots)) ⊎ (slot_index_of key step (length slots) ≤ at) → s.code ≢ NO_NAME
    by (inl p) q = elsewhere (λ e. absurd (omega (arith, p, e)))
    by (inr p) (inl q) = elsewhere (λ e. absurd (omega (arith, q, e)))
    by (inr p) (inr q) =
        let same : slot_index_of key step (length slots) ≡ at = omega (arith, p, q) in
        let here : slice_get (slice_set slots at new) at ≡ Some s = ap (slice_get (slice_set slots at new)) (sym same) ∙ g' in
        let w = slice_get_within (slice_set slots at new) at s here in
        let l = length-set slots at new in
        let e : new ≡ s = same_Some _ _ (sym (get-set_same slots at new (omega (arith, w, l))) ∙ here) in
        λ z. ne (ap (λ (u : Slot). u.code) e ∙ z)

reachable-set : (slots : List Slot) (at : ℕ) (new : Slot) (key k : ℕ) → ((s : Slot) → slice_get slots at ≡ Some s → s.code ≡ NO_NAME) → new.code ≢ NO_NAME → k ≢ NO_NAME
    → IsReachable slots key k → IsReachable (slice_set slots at new) key k
reachable-set slots at new key k free ne known h =
    let l = length-set slots at new in
    let w = h.within in
    record {
      step = h.step;
      within = omega (arith, w, l);
      near = h.near;
      there = ap (λ n. slice_get (slice_set slots at new) (slot_index_of key h.step n)) l
          ∙ (get-set_other slots at (slot_index_of key h.step (length slots)) new (λ e. known (free (slot_of key k) (ap (slice_get slots) (sym e) ∙ h.there))) ∙ h.there);
      before = λ i p. taken-set slots at new key i ne (h.before i p);
    }

put-new : (slots : List Slot) (at : ℕ) (key k : ℕ) → IsFirstFreeSlot slots key at → k ≢ NO_NAME → IsReachable (slice_set slots at (slot_of key k)) key k
put-new slots at key k f known =
    let new : Slot = slot_of key k in
    let l = length-set slots at new in
    let w = f.within in
    record {
      step = f.step;
      within = omega (arith, w, l);
      near = f.near;
      there = ap (λ n. slice_get (slice_set slots at new) (slot_index_of key f.step n)) l
          ∙ (ap (slice_get (slice_set slots at new)) f.index ∙ get-set_same slots at new f.inside);
      before = λ i p. taken-set slots at new key i known (f.before i p);
    }

-- slots that are all equal to one without a code are unused
pub unused : (slots old : List Slot) (m n : ℕ) (free : Slot) → old ≡ [] → slots ≡ take m old ++ replicate n free → free.code ≡ NO_NAME → AreUnused slots
unused slots old m n free nothing e none i s g = alike (sym (ap (λ xs. slice_get xs i) (e ∙ (ap (λ xs. take m xs ++ replicate n free) nothing ∙ front m))) ∙ g)
  where
    front : (m : ℕ) → take m [] ++ replicate n free ≡ replicate n free
    front zero = refl
    front (suc m) = refl

    alike : slice_get (replicate n free) i ≡ Some s → s.code ≡ NO_NAME
    alike g =
        let w = slice_get_within (replicate n free) i s g in
        let l = length-replicate n free in
        let same : s ≡ free =
        sym (ap (λ r. unwrap_or r free) g) ∙ (unwrap_or-slice_get (replicate n free) i free ∙ get_or-replicate n i free free (omega (arith, w, l))) in
        ap (λ (u : Slot). u.code) same ∙ none

-- one more name is put into the first free slot that its key leads to
pub put-reachable : (slots : List Slot) (a : NameKeys) (names : List Name) (key at n : ℕ) → key ≡ key_of (name_at names n) → n < NO_NAME → AreReachable n slots a names → IsFirstFreeSlot slots key at
    → AreReachable (n + 1) (slice_set slots at (slot_of key n)) a names
put-reachable slots a names key at n own few reachable f k lt ne = by (cases_lt k n)
  where
    known : n ≢ NO_NAME
    known e = absurd (omega (arith, few, e))

    by : (k < n) ⊎ (n ≤ k) → IsReachable (slice_set slots at (slot_of key n)) (key_of (name_at names k)) k
    by (inl p) = reachable-set slots at (slot_of key n) (key_of (name_at names k)) k f.free known (λ e. absurd (omega (arith, p, few, e))) (reachable k p ne)
    by (inr p) =
        let same : n ≡ k = omega (arith, p, lt) in
        subst (λ h. IsReachable (slice_set slots at (slot_of key n)) h k) (own ∙ ap (λ i. key_of (name_at names i)) same)
        (subst (IsReachable (slice_set slots at (slot_of key n)) key) same (put-new slots at key n f known))
