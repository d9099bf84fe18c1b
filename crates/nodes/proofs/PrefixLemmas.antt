-- Prefixes of one list.
use Rattle.std.proofs.Common.{◌≡◌, List, [], ◌∷◌, ◌++◌, refl, ap, sym, ◌∙◌, append-nil, append_assoc, inl, inr}
use Rattle.std.specs.Prelude.{◌⊎◌}
use Rattle.net.specs.Agree.{IsPrefixOf}

pub prefix_self : {A : Type 0} (xs : List A) → IsPrefixOf xs xs
prefix_self xs = ([], append-nil xs)

pub prefix_trans : {A : Type 0} (xs ys zs : List A) → IsPrefixOf xs ys → IsPrefixOf ys zs → IsPrefixOf xs zs
prefix_trans xs ys zs p q = (p.0 ++ q.0, sym (append_assoc xs p.0 q.0) ∙ (ap (λ w. w ++ q.0) p.1 ∙ q.1))

-- what begins an empty list is empty
front_none : {A : Type 0} (xs rest : List A) → xs ++ rest ≡ [] → xs ≡ []
front_none [] rest e = refl
front_none (x ∷ xs) rest e = cc

-- a prefix of a list with one more element is one of the list, or all of it
pub prefix_snoc : {A : Type 0} (xs ys : List A) (y : A) → IsPrefixOf xs (ys ++ y ∷ []) → IsPrefixOf xs ys ⊎ (xs ≡ ys ++ y ∷ [])
prefix_snoc [] ys y p = inl (ys, refl)
prefix_snoc {A} (x ∷ xs) [] y p =
    let tail : xs ++ p.0 ≡ [] = cc (p.1) in
    let head : x ≡ y = cc (p.1) in
    inr (ap (λ (z : A). z ∷ xs) head ∙ ap (λ (zs : List A). y ∷ zs) (front_none xs p.0 tail))
prefix_snoc {A} (x ∷ xs) (z ∷ ys) y p =
    let head : x ≡ z = cc (p.1) in
    elim (prefix_snoc xs ys y (p.0, cc (p.1))) as (λ _. IsPrefixOf (x ∷ xs) (z ∷ ys) ⊎ ((x ∷ xs) ≡ z ∷ (ys ++ y ∷ []))) [
      | inl r ↦ inl (r.0, cc (head, r.1))
      | inr e ↦ inr (cc (head, e))
    ]
