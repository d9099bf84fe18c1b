-- Lists that agree: one is a prefix of the other.
use Rattle.net.proofs.Words.{◌≡◌, ℕ, suc, List, [], ◌∷◌, ◌++◌, Some, inl, inr, refl, ap, sym, ◌∙◌, slice_get, append_assoc, IsPrefixOf, Agree}

-- a prefix of a prefix is a prefix
pub then_begins : {A : Type 0} (xs ys zs : List A) → IsPrefixOf xs ys → IsPrefixOf ys zs → IsPrefixOf xs zs
then_begins xs ys zs h k = (h.0 ++ k.0, sym (append_assoc xs h.0 k.0) ∙ ap (λ ws. ws ++ k.0) h.1 ∙ k.1)

-- agreement of lists is symmetric
pub swapped : {A : Type 0} (xs ys : List A) → Agree xs ys → Agree ys xs
swapped xs ys (inl h) = inr h
swapped xs ys (inr h) = inl h

-- lists that agree still agree with equal elements put in front
agree_more : {A : Type 0} (x y : A) (xs ys : List A) → x ≡ y → Agree xs ys → Agree (x ∷ xs) (y ∷ ys)
agree_more x y xs ys same (inl h) = inl (h.0, let e = h.1 in cc)
agree_more x y xs ys same (inr h) = inr (h.0, let e = h.1 in cc)

-- if two lists have equal elements at each index that is in both, they agree
pub agree_lists : {A : Type 0} (xs ys : List A) → ((s : ℕ) (u v : A) → slice_get xs s ≡ Some u → slice_get ys s ≡ Some v → u ≡ v) → Agree xs ys
agree_lists [] ys same = inl (ys, refl)
agree_lists (x ∷ xs) [] same = inr (x ∷ xs, refl)
agree_lists (x ∷ xs) (y ∷ ys) same = agree_more x y xs ys (same 0 x y refl refl) (agree_lists xs ys (λ s u v e d. same (suc s) u v e d))

-- two prefixes of one list agree
pub beginnings_agree : {A : Type 0} (xs ys zs : List A) → IsPrefixOf xs zs → IsPrefixOf ys zs → Agree xs ys
beginnings_agree [] ys zs first second = inl (ys, refl)
beginnings_agree (x ∷ xs) [] zs first second = inr (x ∷ xs, refl)
beginnings_agree (x ∷ xs) (y ∷ ys) [] first second = let e = first.1 in cc
beginnings_agree (x ∷ xs) (y ∷ ys) (z ∷ zs) first second =
    let e = first.1 in
    let d = second.1 in
    agree_more x y xs ys (cc) (beginnings_agree xs ys zs (first.0, (cc)) (second.0, (cc)))
