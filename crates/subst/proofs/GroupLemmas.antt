-- Lists of numbers as lists of names.
use Rattle.std.proofs.lemmas.Bool.{ne_eqb}
use Rattle.subst.proofs.Words.{◌≡◌, ℕ, zero, suc, ◌<◌, Bool, true, ◌||◌, ◌&&◌, ◌==◌, List, [], ◌∷◌, length, drop, slice_get, Some, refl, list_all, position_or_len, sym, ◌∙◌, ap, subst, arith, inl, inr, true≢false, lt-ltb, cases_Bool, list_all-map, Name, name_eq, Database, name_at, decode, AreDistinct, name_same, same_name, CodeImages, image, images_of_names, are_disjoint, AreBelow, AllBelow, image_named, are_two_disjoint, is_number_disjoint, is_list_disjoint}
use Rattle.subst.proofs.SubstitutionLemmas.{place-of, image-decode}

-- ---- lists

pub below-drop : (n i : ℕ) (xs : List ℕ) → AreBelow n xs → AreBelow n (drop i xs)
below-drop n zero xs b = b
below-drop n (suc i) [] b = tt
below-drop n (suc i) (x ∷ xs) b = below-drop n i xs b.1

pub below-group : (n : ℕ) (groups : List (List ℕ)) (i : ℕ) (g : List ℕ) → AllBelow n groups → slice_get groups i ≡ Some g → AreBelow n g
below-group n [] i g b h = absurd (cc)
below-group n (f ∷ groups) zero g b h = let e : f ≡ g = cc in subst (AreBelow n) e b.0
below-group n (f ∷ groups) (suc i) g b h = below-group n groups i g b.1 h

-- ---- numbers in place of names

eq-own : (j : ℕ) → (j == j) ≡ true
eq-own j = grind arith

all-below : (n : ℕ) (p q : ℕ → Bool) (xs : List ℕ) → AreBelow n xs → ((k : ℕ) → k < n → p k ≡ q k) → list_all p xs ≡ list_all q xs
all-below n p q [] b h = refl
all-below n p q (x ∷ xs) b h = ap (λ r. r && list_all p xs) (h x b.0) ∙ ap (λ r. q x && r) (all-below n p q xs b.1 h)

module _ (names : List Name) (distinct : AreDistinct names) where
  eq-named : (k l : ℕ) → k < length names → l < length names → (k == l) ≡ name_eq (name_at names k) (name_at names l)
  eq-named k l hk hl = elim (cases_Bool (name_eq (name_at names k) (name_at names l))) [
    | inl e ↦
        let p = place-of names k distinct (lt-ltb k (length names) hk) in
        let q = place-of names l distinct (lt-ltb l (length names) hl) in
        let one : k ≡ l = sym p.1 ∙ (ap (λ x. position_or_len (name_eq x) names) (same_name (name_at names k) (name_at names l) e) ∙ q.1) in
        rw e (ap (λ m. m == l) one ∙ eq-own l)
    | inr e ↦ rw e (ne_eqb k l (λ one. true≢false (sym (name_same (name_at names l)) ∙ (ap (λ m. name_eq (name_at names m) (name_at names l)) (sym one) ∙ e))))
  ]

  module _ (D : Database) (σ : CodeImages) where
    two-named : (k l : ℕ) → k < length names → l < length names
        → are_two_disjoint D (image_named names σ) k l ≡ (name_eq (name_at names k) (name_at names l) || are_disjoint D (image (images_of_names names σ) (name_at names k)) (image (images_of_names names σ) (name_at names l)))
    two-named k l hk hl =
        ap (λ b. b || are_disjoint D (image_named names σ k) (image_named names σ l)) (eq-named k l hk hl)
        ∙ (ap (λ e. name_eq (name_at names k) (name_at names l) || are_disjoint D e (image_named names σ l)) (image-decode names σ k distinct (lt-ltb k (length names) hk))
        ∙ ap (λ e. name_eq (name_at names k) (name_at names l) || are_disjoint D (image (images_of_names names σ) (name_at names k)) e) (image-decode names σ l distinct (lt-ltb l (length names) hl)))

    pub list-named : (x : ℕ) (others : List ℕ) → x < length names → AreBelow (length names) others
        → is_number_disjoint D (image_named names σ) others x ≡ is_list_disjoint D (images_of_names names σ) (decode names (x ∷ others))
    list-named x others hx b =
        all-below (length names) (are_two_disjoint D (image_named names σ) x) (λ l. name_eq (name_at names x) (name_at names l) || are_disjoint D (image (images_of_names names σ) (name_at names x)) (image (images_of_names names σ) (name_at names l))) others b (λ l hl. two-named x l hx hl)
        ∙ sym (list_all-map (λ y. name_eq (name_at names x) y || are_disjoint D (image (images_of_names names σ) (name_at names x)) (image (images_of_names names σ) y)) (name_at names) others)
