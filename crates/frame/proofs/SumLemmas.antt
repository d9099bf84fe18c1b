-- Sums over mapped and filtered lists, and over lists with the same numbers.
use Rattle.frame.proofs.Words.{and-false, ◌≡◌, ℕ, ◌+◌, ◌<◌, ◌==◌, Bool, true, false, cond, not, ◌&&◌, ◌||◌, List, [], ◌∷◌, map, filter, refl, sym, ◌∙◌, ap, arith, true≢false, or_parts, AreBelow, has_number, IsEachOnce}
use Rattle.std.specs.List.{sum_by}
use Rattle.std.proofs.lemmas.List.Sums.{sum_by-cons}
use Rattle.frame.specs.NumberedWork.{numbers_but}
use Rattle.frame.proofs.PairListLemmas.{filter-has, own, turn}

pub sum-map : {A B : Type 0} (f : B → ℕ) (g : A → B) (xs : List A) → sum_by f (map g xs) ≡ sum_by (λ x. f (g x)) xs
sum-map f g [] = refl
sum-map f g (x ∷ xs) = sum_by-cons f (g x) (map g xs) ∙ (ap (λ n. f (g x) + n) (sum-map f g xs) ∙ sym (sum_by-cons (λ y. f (g y)) x xs))

-- functions that agree below a bound have the same sum over numbers below it
pub sum-below : (n : ℕ) (f g : ℕ → ℕ) (xs : List ℕ) → AreBelow n xs → ((x : ℕ) → x < n → f x ≡ g x) → sum_by f xs ≡ sum_by g xs
sum-below n f g [] b same = refl
sum-below n f g (x ∷ xs) b same =
    sum_by-cons f x xs ∙ (ap (λ m. m + sum_by f xs) (same x b.0) ∙ (ap (λ m. g x + m) (sum-below n f g xs b.1 same) ∙ sym (sum_by-cons g x xs)))

-- ---- lists with the same numbers, each once

but-has : (x : ℕ) (xs : List ℕ) (c : ℕ) → has_number (numbers_but x xs) c ≡ (not (x == c) && has_number xs c)
but-has x xs c = filter-has (λ y. not (x == y)) xs c

-- a number that is not in the list leaves it as it is
pub but-absent : (x : ℕ) (xs : List ℕ) → has_number xs x ≡ false → numbers_but x xs ≡ xs
but-absent x [] none = refl
but-absent x (y ∷ xs) none =
    let p = or_parts (y == x) (has_number xs x) none in
    ap (λ b. cond (not b) (y ∷ numbers_but x xs) (numbers_but x xs)) (turn x y ∙ p.0) ∙ ap (λ l. y ∷ l) (but-absent x xs p.1)

pub filter-once : (p : ℕ → Bool) (xs : List ℕ) → IsEachOnce xs → IsEachOnce (filter p xs)
filter-once p [] once = tt
filter-once p (x ∷ xs) once = by (p x) (filter-once p xs once.1)
  where
    by : (b : Bool) → IsEachOnce (filter p xs) → IsEachOnce (cond b (x ∷ filter p xs) (filter p xs))
    by true more = (filter-has p xs x ∙ (ap (λ b. p x && b) once.0 ∙ and-false (p x)), more)
    by false more = more

-- the sum without a number of the list
sum-but : (f : ℕ → ℕ) (x : ℕ) (xs : List ℕ) → IsEachOnce xs → has_number xs x ≡ true → sum_by f xs ≡ f x + sum_by f (numbers_but x xs)
sum-but f x [] once has = absurd (true≢false (sym has))
sum-but f x (y ∷ xs) once has = by (y == x) refl has (sum-but f x xs once.1)
  where
    by : (b : Bool) → (y == x) ≡ b → (b || has_number xs x) ≡ true → (has_number xs x ≡ true → sum_by f xs ≡ f x + sum_by f (numbers_but x xs))
        → sum_by f (y ∷ xs) ≡ f x + sum_by f (cond (not (x == y)) (y ∷ numbers_but x xs) (numbers_but x xs))
    by true e h more =
        let same : y ≡ x = grind (arith, e) in
        let none : has_number xs x ≡ false = ap (has_number xs) (sym same) ∙ once.0 in
        sum_by-cons f y xs
        ∙ (ap (λ n. f n + sum_by f xs) same
        ∙ (ap (λ l. f x + sum_by f l) (sym (but-absent x xs none)) ∙ ap (λ b. f x + sum_by f (cond (not b) (y ∷ numbers_but x xs) (numbers_but x xs))) (sym (turn x y ∙ e))))
    by false e h more =
        let a = sum_by-cons f y xs in
        let b = more h in
        let c = sum_by-cons f y (numbers_but x xs) in
        let d : sum_by f (cond (not (x == y)) (y ∷ numbers_but x xs) (numbers_but x xs)) ≡ sum_by f (y ∷ numbers_but x xs) = ap (λ t. sum_by f (cond (not t) (y ∷ numbers_but x xs) (numbers_but x xs))) (turn x y ∙ e) in
        omega (arith, a, b, c, d)

-- lists that have the same numbers, each once, have the same sum
pub sum-once : (f : ℕ → ℕ) (xs ys : List ℕ) → IsEachOnce xs → IsEachOnce ys → ((c : ℕ) → has_number ys c ≡ has_number xs c) → sum_by f ys ≡ sum_by f xs
sum-once f [] [] once once' each = refl
sum-once f [] (y ∷ ys) once once' each = absurd (true≢false (sym (ap (λ b. b || has_number ys y) (own y)) ∙ each y))
sum-once f (x ∷ xs) ys once once' each =
    sum-but f x ys once' (each x ∙ ap (λ b. b || has_number xs x) (own x))
    ∙ (ap (λ n. f x + n) (sum-once f xs (numbers_but x ys) once.1 (filter-once (λ y. not (x == y)) ys once') rest) ∙ sym (sum_by-cons f x xs))
  where
    rest : (c : ℕ) → has_number (numbers_but x ys) c ≡ has_number xs c
    rest c = but-has x ys c ∙ (ap (λ b. not (x == c) && b) (each c) ∙ by (x == c) refl)
      where
        by : (b : Bool) → (x == c) ≡ b → (not b && (b || has_number xs c)) ≡ has_number xs c
        by true e = let same : x ≡ c = grind (arith, e) in sym (ap (has_number xs) (sym same) ∙ once.0)
        by false e = refl
