-- If all its pages are received, a list is their join.
use Rattle.synod.proofs.Words.{◌≡◌, ℕ, zero, suc, ◌+◌, ◌-◌, ◌*◌, ◌<◌, ◌≤◌, List, [], ◌∷◌, ◌++◌, length, take, drop, Option, Some, None, ◌⊎◌, inl, inr, refl, ap, sym, ◌∙◌, arith, le_of_suc-le-suc, length-drop, drop-drop, eq-zero-or-pos, ap₂, true, nat_tests, entry_at, front_of, onto_first, cut_after, pages_of, joined_pages, are_received}
use Rattle.std.proofs.Common.{slice_get}

abbrev pub append_all : {T : Type 0} → List (List T) → List T
append_all [] = []
append_all (page ∷ pages) = page ++ append_all pages

onto_first-all : {T : Type 0} (x : T) (pages : List (List T)) → append_all (onto_first x pages) ≡ x ∷ append_all pages
onto_first-all x [] = refl
onto_first-all x (page ∷ pages) = refl

cut_after-all : {T : Type 0} (xs : List T) (room : ℕ) → append_all (cut_after room xs) ≡ xs
cut_after-all [] room = refl
cut_after-all (x ∷ xs) zero = onto_first-all x (cut_after 255 xs) ∙ ap (λ ys. x ∷ ys) (cut_after-all xs 255)
cut_after-all (x ∷ xs) (suc room) = onto_first-all x (cut_after room xs) ∙ ap (λ ys. x ∷ ys) (cut_after-all xs room)

pub pages-all : {T : Type 0} (xs : List T) → append_all (pages_of xs) ≡ xs
pages-all xs = cut_after-all xs 256

-- if all pages are received, and each received one is the page at its index, they join to the whole
-- list
pub joined-all : {T : Type 0} (pages : List (List T)) (had : List (Option (List T))) → ((i : ℕ) (page : List T) → entry_at had i ≡ Some page → slice_get pages i ≡ Some page)
    → length pages ≤ front_of had → joined_pages had (length pages) ≡ append_all pages
joined-all [] had each all = refl
joined-all (page ∷ pages) [] each all = absurd (omega arith)
joined-all (page ∷ pages) (None ∷ had) each all = absurd (omega arith)
joined-all (page ∷ pages) (Some x ∷ had) each all =
    let first = each 0 x refl in
    let same : x ≡ page = cc in
    ap₂ (λ y z. y ++ z) same (joined-all pages had (λ i y e. each (suc i) y e) (le_of_suc-le-suc all))

pub are_received-front : {T : Type 0} (had : List (Option (List T))) (count : ℕ) → are_received had count ≡ true → count ≤ front_of had
are_received-front had count h = grind (arith, nat_tests)

-- Page i, from 0, has at most 256 elements, from index 256 * i on.

onto_first-head : {T : Type 0} (x : T) (ps : List (List T)) (p : List T) → slice_get ps 0 ≡ Some p → slice_get (onto_first x ps) 0 ≡ Some (x ∷ p)
onto_first-head x [] p h = cc
onto_first-head x (q ∷ ps) p h = cc

onto_first-later : {T : Type 0} (x : T) (ps : List (List T)) (i : ℕ) → slice_get (onto_first x ps) (suc i) ≡ slice_get ps (suc i)
onto_first-later x [] i = refl
onto_first-later x (q ∷ ps) i = refl

cut_after-first : {T : Type 0} (room : ℕ) (xs : List T) → slice_get (cut_after room xs) 0 ≡ Some (take room xs)
cut_after-first zero [] = refl
cut_after-first (suc room) [] = refl
cut_after-first zero (x ∷ xs) = refl
cut_after-first (suc room) (x ∷ xs) = onto_first-head x (cut_after room xs) (take room xs) (cut_after-first room xs)

cut_after-later : {T : Type 0} (room : ℕ) (xs : List T) (i : ℕ) → room < length xs → slice_get (cut_after room xs) (suc i) ≡ slice_get (cut_after 256 (drop room xs)) i
cut_after-later zero [] i h = absurd (omega arith)
cut_after-later (suc room) [] i h = absurd (omega arith)
cut_after-later zero (x ∷ xs) i h = refl
cut_after-later (suc room) (x ∷ xs) i h = onto_first-later x (cut_after room xs) i ∙ cut_after-later room xs i (le_of_suc-le-suc h)

pub page-is : {T : Type 0} (i : ℕ) (xs : List T) → (256 * i < length xs) ⊎ (i ≡ 0) → slice_get (pages_of xs) i ≡ Some (take 256 (drop (256 * i) xs))
page-is zero xs h = cut_after-first 256 xs
page-is (suc i) xs (inr e) = absurd (omega (arith, e))
page-is {T} (suc i) xs (inl h) =
    let m : 256 * suc i ≡ 256 + 256 * i = omega arith in
    let l : length (drop 256 xs) ≡ length xs - 256 = length-drop 256 xs in
    cut_after-later 256 xs i (omega (arith, h))
    ∙ page-is i (drop 256 xs) (elim (eq-zero-or-pos i) [ inl e ↦ inr e | inr p ↦ inl (omega (arith, h, l, m)) ])
    ∙ ap (λ (ys : List T). Some (take 256 ys)) (drop-drop (256 * i) 256 xs ∙ ap (λ (j : ℕ). drop j xs) (sym m))
