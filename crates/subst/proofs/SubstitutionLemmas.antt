-- Substitution over numbers is substitution over their names.
use Rattle.subst.proofs.Words.{◌≡◌, ℕ, zero, suc, Bool, true, false, cond, not, nat_lt, ◌||◌, ◌+◌, List, [], ◌∷◌, ◌++◌, length, Some, None, refl, list_all, position_or_len, sym, ◌∙◌, ap, arith, and_parts, ltb-true, lt-ltb, or_parts, Name, name_eq, has_name, name_at, decode, code_of, AreDistinct, name_same, name_eq-comm, CodeImages, code_image, code_apply, image, images_from, images_of_names, found-number, unknown-number, SubstitutionOverNames}

-- if n + 1 < m + 1, then n < m
tail_lt : (n m : ℕ) → nat_lt (suc n) (suc m) ≡ true → nat_lt n m ≡ true
tail_lt n m h = lt-ltb n m (omega (arith, ltb-true (suc n) (suc m) h))

-- a name that is not in a list differs from the name at each index
not_at : (x : Name) (names : List Name) (n : ℕ) → has_name x names ≡ false → nat_lt n (length names) ≡ true → name_eq x (name_at names n) ≡ false
not_at x [] n h k = absurd (omega (arith, ltb-true n 0 k))
not_at x (y ∷ names) zero h k = (or_parts (name_eq x y) (has_name x names) h).0
not_at x (y ∷ names) (suc n) h k = not_at x names n (or_parts (name_eq x y) (has_name x names) h).1 (tail_lt n (length names) k)

pub decode-append : (names : List Name) (a b : List ℕ) → decode names (a ++ b) ≡ decode names a ++ decode names b
decode-append names [] b = refl
decode-append names (x ∷ a) b = ap (λ r. name_at names x ∷ r) (decode-append names a b)

-- the image of a name of the list is that of its number, and other names are their own images
image-at : (names : List Name) (σ : CodeImages) (k : ℕ) (xs : List Name) (x : Name)
    → image (images_from names σ k xs) x ≡ cond (has_name x xs) (decode names (code_image σ (k + position_or_len (name_eq x) xs))) (x ∷ [])
image-at names σ k [] x = refl
image-at names σ k (y ∷ xs) x = by (name_eq x y) (image-at names σ (suc k) xs x)
  where
    by : (b : Bool) → image (images_from names σ (suc k) xs) x ≡ cond (has_name x xs) (decode names (code_image σ (suc k + position_or_len (name_eq x) xs))) (x ∷ [])
        → cond b (decode names (code_image σ k)) (image (images_from names σ (suc k) xs) x)
        ≡ cond (b || has_name x xs) (decode names (code_image σ (k + cond (not b) (1 + position_or_len (name_eq x) xs) 0))) (x ∷ [])
    by true rest = let e : k ≡ k + 0 = omega arith in ap (λ n. decode names (code_image σ n)) e
    by false rest =
        let e : suc k + position_or_len (name_eq x) xs ≡ k + (1 + position_or_len (name_eq x) xs) = omega arith in
        rest ∙ ap (λ n. cond (has_name x xs) (decode names (code_image σ n)) (x ∷ [])) e

-- the image of a name is that of its number
pub image-named : (names : List Name) (σ : CodeImages) (x : Name) (n : ℕ) → code_of names x ≡ Some n → image (images_of_names names σ) x ≡ decode names (code_image σ n)
image-named names σ x n h =
    let has : has_name x names ≡ true = (found-number names x n (sym h)).0 in
    image-at names σ 0 names x
    ∙ (ap (λ b. cond b (decode names (code_image σ (0 + position_or_len (name_eq x) names))) (x ∷ [])) has
    ∙ ap (λ m. decode names (code_image σ m)) (place (nat_lt (position_or_len (name_eq x) names) (length names)) h))
  where
    place : (b : Bool) → cond b (Some (position_or_len (name_eq x) names)) None ≡ Some n → 0 + position_or_len (name_eq x) names ≡ n
    place true e = let f : position_or_len (name_eq x) names ≡ n = cc in omega (arith, f)
    place false e = cc

-- a name without a number is its own image
pub image-unnamed : (names : List Name) (σ : CodeImages) (x : Name) → code_of names x ≡ None → image (images_of_names names σ) x ≡ x ∷ []
image-unnamed names σ x h =
    image-at names σ 0 names x
    ∙ ap (λ b. cond b (decode names (code_image σ (0 + position_or_len (name_eq x) names))) (x ∷ [])) (unknown-number names x (sym h))

-- the name of a number has this number, if the names are distinct
pub place-of : (names : List Name) (n : ℕ) → AreDistinct names → nat_lt n (length names) ≡ true
    → (has_name (name_at names n) names ≡ true) × (position_or_len (name_eq (name_at names n)) names ≡ n)
place-of [] n d h = absurd (omega (arith, ltb-true n 0 h))
place-of (x ∷ names) zero d h = (ap (λ b. b || has_name x names) (name_same x), ap (λ b. cond (not b) (1 + position_or_len (name_eq x) names) 0) (name_same x))
place-of (x ∷ names) (suc n) d h =
    let low = tail_lt n (length names) h in
    let rest = place-of names n d.1 low in
    let other : name_eq (name_at names n) x ≡ false = name_eq-comm (name_at names n) x ∙ not_at x names n d.0 low in (
      ap (λ b. b || has_name (name_at names n) names) other ∙ rest.0,
      ap (λ b. cond (not b) (1 + position_or_len (name_eq (name_at names n)) names) 0) other ∙ up (position_or_len (name_eq (name_at names n)) names) n rest.1,
    )
  where
    up : (m n : ℕ) → m ≡ n → 1 + m ≡ suc n
    up m n e = omega (arith, e)

pub image-decode : (names : List Name) (σ : CodeImages) (n : ℕ) → AreDistinct names → nat_lt n (length names) ≡ true
    → decode names (code_image σ n) ≡ image (images_of_names names σ) (name_at names n)
image-decode names σ n d h =
    let p = place-of names n d h in
    let same : 0 + position_or_len (name_eq (name_at names n)) names ≡ n = omega (arith, p.1) in
    sym (image-at names σ 0 names (name_at names n)
    ∙ (ap (λ b. cond b (decode names (code_image σ (0 + position_or_len (name_eq (name_at names n)) names))) (name_at names n ∷ [])) p.0
    ∙ ap (λ m. decode names (code_image σ m)) same))

-- substituting over numbers and then reading the names is reading the names and then substituting
pub substitution_over_names : SubstitutionOverNames
substitution_over_names names σ [] d codes = refl
substitution_over_names names σ (x ∷ e) d codes =
    let k = and_parts (nat_lt x (length names)) (list_all (λ n. nat_lt n (length names)) e) codes in
    decode-append names (code_image σ x) (code_apply σ e)
    ∙ (ap (λ r. r ++ decode names (code_apply σ e)) (image-decode names σ x d k.0)
    ∙ ap (λ r. image (images_of_names names σ) (name_at names x) ++ r) (substitution_over_names names σ e d k.1))
