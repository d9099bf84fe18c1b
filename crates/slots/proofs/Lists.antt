-- Membership in a list, by recursion.
use Rattle.std.proofs.Common.{◌≡◌, ℕ, suc, zero, List, [], ◌∷◌, ◌++◌, ◌⊎◌, inl, inr, Contains, slice_index_or, length, ◌<◌, arith, le_of_suc-le-suc}

abbrev pub In : {A : Type 0} → A → List A → Type 0
In x [] = ⊥
In x (y ∷ ys) = (y ≡ x) ⊎ In x ys

pub In-append_left : {A : Type 0} (x : A) (xs ys : List A) → In x xs → In x (xs ++ ys)
In-append_left x [] ys i = elim i [ ]
In-append_left x (z ∷ xs) ys (inl e) = inl e
In-append_left x (z ∷ xs) ys (inr i) = inr (In-append_left x xs ys i)

pub In-append_right : {A : Type 0} (x : A) (xs ys : List A) → In x ys → In x (xs ++ ys)
In-append_right x [] ys i = i
In-append_right x (z ∷ xs) ys i = inr (In-append_right x xs ys i)

pub In-append : {A : Type 0} (x : A) (xs ys : List A) → In x (xs ++ ys) → In x xs ⊎ In x ys
In-append x [] ys i = inr i
In-append x (z ∷ xs) ys (inl e) = inl (inl e)
In-append x (z ∷ xs) ys (inr i) = elim (In-append x xs ys i) [ inl j ↦ inl (inr j) | inr j ↦ inr j ]

-- if x is in the list by recursion, it is so by std's `Contains`
pub In-contains : {A : Type 0} (x : A) (xs : List A) → In x xs → Contains xs x
In-contains x [] i = elim i [ ]
In-contains x (y ∷ xs) (inl e) = (0, omega arith, e)
In-contains x (y ∷ xs) (inr i) = let h = In-contains x xs i in (suc h.0, omega (arith, h.1), h.2)

-- the element at an index is in the list
in_at : {A : Type 0} (x : A) (xs : List A) (k : ℕ) → k < length xs → slice_index_or xs k x ≡ x → In x xs
in_at x [] k u e = absurd (omega arith)
in_at x (y ∷ xs) zero u e = inl e
in_at x (y ∷ xs) (suc k) u e = inr (in_at x xs k (le_of_suc-le-suc u) e)

pub Contains-in : {A : Type 0} (x : A) (xs : List A) → Contains xs x → In x xs
Contains-in x xs h = in_at x xs h.0 h.1 h.2
