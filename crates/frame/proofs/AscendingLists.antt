-- Members of lists of positions. Two ascending lists with the same members are equal.
use Rattle.frame.proofs.Words.{sym, ◌∙◌, ap, arith, inl, inr, ◌≡◌, ℕ, zero, suc, ◌<◌, List, [], ◌∷◌, slice_get, Some, refl, In, AreAbove, Ascends}

-- a member has an index, and an element at an index is a member
pub in-place : (p : ℕ) (ps : List ℕ) → In p ps → (k : ℕ) × (slice_get ps k ≡ Some p)
in-place p [] i = absurd i
in-place p (q ∷ ps) (inl e) = (0, ap Some (sym e))
in-place p (q ∷ ps) (inr i) = let r = in-place p ps i in (suc r.0, r.1)

pub place-in : (ps : List ℕ) (k p : ℕ) → slice_get ps k ≡ Some p → In p ps
place-in [] k p h = cc
place-in (q ∷ ps) zero p h = inl cc
place-in (q ∷ ps) (suc k) p h = inr (place-in ps k p h)

-- ---- ascending lists

above-in : (q p : ℕ) (xs : List ℕ) → AreAbove q xs → In p xs → q < p
above-in q p [] a i = absurd i
above-in q p (x ∷ xs) a (inl e) = let l = a.0 in omega (arith, l, e)
above-in q p (x ∷ xs) a (inr i) = above-in q p xs a.1 i

pub above-less : (p q : ℕ) (xs : List ℕ) → p < q → AreAbove q xs → AreAbove p xs
above-less p q [] h a = tt
above-less p q (x ∷ xs) h a = (let l = a.0 in omega (arith, l, h), above-less p q xs h a.1)

pub same-lists : (xs ys : List ℕ) → Ascends xs → Ascends ys → ((p : ℕ) → In p xs → In p ys) → ((p : ℕ) → In p ys → In p xs) → xs ≡ ys
same-lists [] [] a b f g = refl
same-lists [] (y ∷ ys) a b f g = absurd (g y (inl refl))
same-lists (x ∷ xs) [] a b f g = absurd (f x (inl refl))
same-lists (x ∷ xs) (y ∷ ys) a b f g =
    ap (λ v. v ∷ xs) same_head ∙ ap (λ r. y ∷ r) (same-lists xs ys a.1 b.1 (λ p i. there p i (f p (inr i))) (λ p i. back p i (g p (inr i))))
  where
    same_head : x ≡ y
    same_head = by (f x (inl refl)) (g y (inl refl))
      where
        by : In x (y ∷ ys) → In y (x ∷ xs) → x ≡ y
        by (inl e) j = e
        by (inr i) (inl e) = sym e
        by (inr i) (inr j) = let l = above-in y x ys b.0 i in let k = above-in x y xs a.0 j in absurd (omega (arith, l, k))

    there : (p : ℕ) → In p xs → In p (y ∷ ys) → In p ys
    there p i (inr j) = j
    there p i (inl e) = let l = above-in x p xs a.0 i in let h = same_head in absurd (omega (arith, l, e, h))

    back : (p : ℕ) → In p ys → In p (x ∷ xs) → In p xs
    back p i (inr j) = j
    back p i (inl e) = let l = above-in y p ys b.0 i in let h = same_head in absurd (omega (arith, l, e, h))

-- an ascending list has each position at most once
pub once-each : (ps : List ℕ) (k j p : ℕ) → Ascends ps → slice_get ps k ≡ Some p → slice_get ps j ≡ Some p → k ≡ j
once-each [] k j p a h g = cc
once-each (q ∷ ps) zero zero p a h g = refl
once-each (q ∷ ps) zero (suc j) p a h g = let l = above-in q p ps a.0 (place-in ps j p g) in let e : q ≡ p = cc in omega (arith, l, e)
once-each (q ∷ ps) (suc k) zero p a h g = let l = above-in q p ps a.0 (place-in ps k p h) in let e : q ≡ p = cc in omega (arith, l, e)
once-each (q ∷ ps) (suc k) (suc j) p a h g = ap suc (once-each ps k j p a.1 h g)
