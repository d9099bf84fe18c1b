-- Names that stay distinct: with one more appended, and truncated to the first ones.
use Rattle.names.proofs.Words.{◌≡◌, ℕ, zero, suc, ◌+◌, ◌<◌, ◌≤◌, Bool, true, false, cond, List, [], ◌∷◌, ◌++◌, length, take, drop, refl, sym, ◌∙◌, ap, arith, length-append, add-one, take-append-drop, or_parts, or_from, Name, name_eq, has_name, name_at, with_name, with_names, AreDistinct}
use Rattle.names.proofs.CodesLemmas.{name_eq-comm}

pub name_at-more : (names more : List Name) (n : ℕ) → n < length names → name_at (names ++ more) n ≡ name_at names n
name_at-more [] more n h = absurd (omega (arith, h))
name_at-more (x ∷ names) more zero h = refl
name_at-more (x ∷ names) more (suc n) h = name_at-more names more n (omega (arith, h))

pub name_at-take : (n : ℕ) (names : List Name) (k : ℕ) → k < length (take n names) → name_at (take n names) k ≡ name_at names k
name_at-take n names k h = sym (name_at-more (take n names) (drop n names) k h) ∙ ap (λ xs. name_at xs k) (take-append-drop n names)

pub length-take-below : (n : ℕ) (names : List Name) → length (take n names) ≤ length names
length-take-below n names = let l = length-append (take n names) (drop n names) in let e = ap length (take-append-drop n names) in omega (arith, l, e)

has-take : (n : ℕ) (names : List Name) (x : Name) → has_name x names ≡ false → has_name x (take n names) ≡ false
has-take zero [] x h = refl
has-take zero (y ∷ names) x h = refl
has-take (suc n) [] x h = refl
has-take (suc n) (y ∷ names) x h =
    let p = or_parts (name_eq x y) (has_name x names) h in
    or_from (name_eq x y) (has_name x (take n names)) p.0 (has-take n names x p.1)

pub distinct-take : (n : ℕ) (names : List Name) → AreDistinct names → AreDistinct (take n names)
distinct-take zero [] d = tt
distinct-take zero (y ∷ names) d = tt
distinct-take (suc n) [] d = tt
distinct-take (suc n) (y ∷ names) d = (has-take n names y d.0, distinct-take n names d.1)

has-push : (names : List Name) (x y : Name) → has_name y names ≡ false → name_eq y x ≡ false → has_name y (names ++ x ∷ []) ≡ false
has-push [] x y p q = or_from (name_eq y x) false q refl
has-push (z ∷ names) x y p q =
    let r = or_parts (name_eq y z) (has_name y names) p in
    or_from (name_eq y z) (has_name y (names ++ x ∷ [])) r.0 (has-push names x y r.1 q)

pub distinct-push : (names : List Name) (x : Name) → AreDistinct names → has_name x names ≡ false → AreDistinct (names ++ x ∷ [])
distinct-push [] x d h = (refl, tt)
distinct-push (y ∷ names) x d h =
    let p = or_parts (name_eq x y) (has_name x names) h in
    (has-push names x y d.0 (name_eq-comm y x ∙ p.0), distinct-push names x d.1 p.1)

-- names that are given codes one after another stay distinct
pub distinct-with_names : (names xs : List Name) → AreDistinct names → AreDistinct (with_names names xs)
distinct-with_names names [] d = d
distinct-with_names names (x ∷ xs) d = distinct-with_names (with_name names x) xs (by (has_name x names) refl)
  where
    by : (b : Bool) → has_name x names ≡ b → AreDistinct (cond b names (names ++ x ∷ []))
    by true h = d
    by false h = distinct-push names x d h

pub take-name : (names : List Name) (i : ℕ) → i < length names → take (i + 1) names ≡ take i names ++ name_at names i ∷ []
take-name names i h = ap (λ n. take n names) (add-one i) ∙ by names i h
  where
    by : (names : List Name) (i : ℕ) → i < length names → take (suc i) names ≡ take i names ++ name_at names i ∷ []
    by [] i h = absurd (omega (arith, h))
    by (x ∷ names) zero h = refl
    by (x ∷ names) (suc i) h = ap (λ r. x ∷ r) (by names i (omega (arith, h)))
