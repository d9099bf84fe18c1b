-- The numbers of a stack, by their places.
use Rattle.scope.proofs.Words.{◌≡◌, ℕ, zero, suc, Bool, true, false, ◌||◌, ◌==◌, List, [], ◌∷◌, ◌++◌, length, Some, slice_get, refl, list_any, sym, ◌∙◌, ap, arith, ◌⊎◌, inl, inr, true≢false, nat_tests, or_right, eqb-true}

-- a number at some place is among the numbers
pub member : (xs : List ℕ) (k n : ℕ) → slice_get xs k ≡ Some n → list_any (λ m. m == n) xs ≡ true
member [] k n h = cc
member (x ∷ xs) zero n h = found x n xs (cc h)
  where
    found : (x n : ℕ) (xs : List ℕ) → x ≡ n → ((x == n) || list_any (λ m. m == n) xs) ≡ true
    found x n xs e = grind (arith, nat_tests)
member (x ∷ xs) (suc k) n h = or_right (x == n) (list_any (λ m. m == n) xs) (member xs k n h)

-- a number at no place is not among the numbers
pub no_member : (xs : List ℕ) (n : ℕ) → ((k : ℕ) → slice_get xs k ≡ Some n → ⊥) → list_any (λ m. m == n) xs ≡ false
no_member [] n none = refl
no_member (x ∷ xs) n none = by (x == n) refl (no_member xs n (λ k h. none (suc k) h))
  where
    by : (b : Bool) → (x == n) ≡ b → list_any (λ m. m == n) xs ≡ false → (b || list_any (λ m. m == n) xs) ≡ false
    by true e rest = absurd (none 0 (ap Some (eqb-true x n e)))
    by false e rest = rest

-- a number at some place differs from one that is not among the numbers
pub other : (xs : List ℕ) (k n m : ℕ) → list_any (λ y. y == m) xs ≡ false → slice_get xs k ≡ Some n → n ≡ m → ⊥
other xs k n m absent h e = true≢false (sym (member xs k m (h ∙ ap Some e)) ∙ absent)

-- a number in a stack after a push is at a place from before, or is the new one at the top
pub pushed : (xs : List ℕ) (y k n : ℕ) → slice_get (xs ++ y ∷ []) k ≡ Some n → (slice_get xs k ≡ Some n) ⊎ ((k ≡ length xs) × (n ≡ y))
pushed [] y zero n h = inr (refl, cc)
pushed [] y (suc k) n h = cc
pushed (x ∷ xs) y zero n h = inl h
pushed (x ∷ xs) y (suc k) n h = elim (pushed xs y k n h) [ inl h ↦ inl h | inr p ↦ inr (ap suc p.0, p.1) ]
