-- The log read from the slots below the first gap.
use Rattle.synod.proofs.Words.{◌≡◌, ◌∙◌, ℕ, zero, suc, ◌+◌, ◌<◌, List, [], ◌∷◌, ◌++◌, take, Option, Some, None, refl, ap, sym, arith, add-one, le_of_suc-le-suc, slice_get, entry_at, entries_to_gap, front_of}

-- below the first gap the log has the entry of the slot
pub gap_entry : {T : Type 0} (xs : List (Option T)) (s : ℕ) → s < front_of xs → slice_get (entries_to_gap xs) s ≡ entry_at xs s
gap_entry [] s h = absurd (omega arith)
gap_entry (None ∷ xs) s h = absurd (omega arith)
gap_entry (Some x ∷ xs) zero h = refl
gap_entry (Some x ∷ xs) (suc s) h = gap_entry xs s (le_of_suc-le-suc h)

-- the first i + 1 elements are the first i and the one at index i
pub take_next : {T : Type 0} (xs : List T) (i : ℕ) (x : T) → slice_get xs i ≡ Some x → take (suc i) xs ≡ take i xs ++ x ∷ []
take_next [] i x h = cc
take_next (y ∷ xs) zero x h = cc
take_next (y ∷ xs) (suc i) x h = ap (λ ys. y ∷ ys) (take_next xs i x h)

-- the first s entries of the log followed by the entry of slot s are the first s + 1
pub log_next : {T : Type 0} (xs : List (Option T)) (s : ℕ) (x : T) (log more : List T) → s < front_of xs → entry_at xs s ≡ Some x → log ≡ take s (entries_to_gap xs) → more ≡ log ++ x ∷ [] → more ≡ take (s + 1) (entries_to_gap xs)
log_next {T} xs s x log more low here before pushed =
    pushed
    ∙ ap (λ (ys : List T). ys ++ x ∷ []) before
    ∙ sym (take_next (entries_to_gap xs) s x (gap_entry xs s low ∙ here))
    ∙ ap (λ (i : ℕ). take i (entries_to_gap xs)) (sym (add-one s))

-- below the first gap there is an entry at each slot
pub no_gap : {T : Type 0} (xs : List (Option T)) (s : ℕ) → s < front_of xs → entry_at xs s ≡ None → ⊥
no_gap [] s h e = omega arith
no_gap (None ∷ xs) s h e = omega arith
no_gap (Some x ∷ xs) zero h e = cc
no_gap (Some x ∷ xs) (suc s) h e = no_gap xs s (le_of_suc-le-suc h) e
