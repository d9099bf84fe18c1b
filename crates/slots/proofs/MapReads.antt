-- A finite map read after a write, and its log read at a slot.
use Rattle.slots.proofs.Words.{◌≡◌, ℕ, zero, suc, List, [], ◌∷◌, Option, Some, None, ◌⊎◌, inl, inr, refl, ap, slice_get, entry_at, put_at, entries_to_gap}

-- the two cases for a slot give those for the slot after it
one_on : {P Q : Type 0} {t s : ℕ} → ((t ≡ s) × P) ⊎ Q → ((suc t ≡ suc s) × P) ⊎ Q
one_on (inl h) = inl (ap suc h.0, h.1)
one_on (inr q) = inr q

-- after a write at s the entry at t is the one written, or is as before
pub put_either : {T : Type 0} (xs : List (Option T)) (s t : ℕ) (v : T) → ((t ≡ s) × (entry_at (put_at xs s v) t ≡ Some v)) ⊎ (entry_at (put_at xs s v) t ≡ entry_at xs t)
put_either [] zero zero v = inl (refl, refl)
put_either [] zero (suc t) v = inr refl
put_either [] (suc s) zero v = inr refl
put_either [] (suc s) (suc t) v = one_on (put_either [] s t v)
put_either (x ∷ xs) zero zero v = inl (refl, refl)
put_either (x ∷ xs) zero (suc t) v = inr refl
put_either (x ∷ xs) (suc s) zero v = inr refl
put_either (x ∷ xs) (suc s) (suc t) v = one_on (put_either xs s t v)

-- after a write at s the entry at s is the one written
pub put_same : {T : Type 0} (xs : List (Option T)) (s : ℕ) (v : T) → entry_at (put_at xs s v) s ≡ Some v
put_same [] zero v = refl
put_same [] (suc s) v = put_same [] s v
put_same (x ∷ xs) zero v = refl
put_same (x ∷ xs) (suc s) v = put_same xs s v

-- if the log has v at index s, the map has v at slot s
pub before_gap : {T : Type 0} (xs : List (Option T)) (s : ℕ) (v : T) → slice_get (entries_to_gap xs) s ≡ Some v → entry_at xs s ≡ Some v
before_gap [] s v h = cc
before_gap (None ∷ xs) s v h = cc
before_gap (Some x ∷ xs) zero v h = h
before_gap (Some x ∷ xs) (suc s) v h = before_gap xs s v h
