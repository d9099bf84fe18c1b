-- Names in one buffer, each after the one before.
use Rattle.names.proofs.Words.{◌≡◌, ℕ, zero, suc, ◌+◌, ◌-◌, ◌<◌, ◌≤◌, List, [], ◌∷◌, ◌++◌, length, take, drop, slice_get, slice_range, Some, refl, ◌∙◌, ap, sym, subst, arith, length-drop, length-take-le, take-append-le, drop-append-le, take-append-drop, take_all, drop-append_seam, same_Some, name_at, names_from, start_of, AreAscendingEnds}

pub names_from-length : (xs : List ℕ) (from : ℕ) (ends : List ℕ) → length (names_from xs from ends) ≡ length ends
names_from-length xs from [] = refl
names_from-length xs from (to ∷ ends) = ap suc (names_from-length xs to ends)

-- the place where the names begin is at most the last end
ascending-behind : (n from : ℕ) (ends : List ℕ) → AreAscendingEnds n from ends → from ≤ n
ascending-behind n from [] l = omega (arith, l)
ascending-behind n from (to ∷ ends) l = let r = ascending-behind n to ends l.1 in let a = l.0 in omega (arith, a, r)

ascending-start : (n from : ℕ) (ends : List ℕ) (i : ℕ) → AreAscendingEnds n from ends → from ≤ start_of from ends i
ascending-start n from [] i l = omega arith
ascending-start n from (to ∷ ends) zero l = omega arith
ascending-start n from (to ∷ ends) (suc i) l = let r = ascending-start n to ends i l.1 in let a = l.0 in omega (arith, a, r)

pub ascending-in : (n from : ℕ) (ends : List ℕ) (i to : ℕ) → AreAscendingEnds n from ends → slice_get ends i ≡ Some to → (start_of from ends i ≤ to) × (to ≤ n)
ascending-in n from [] i to l h = cc
ascending-in n from (t ∷ ends) zero to l h = subst (λ x. (from ≤ x) × (x ≤ n)) (same_Some _ _ h) (l.0, ascending-behind n t ends l.1)
ascending-in n from (t ∷ ends) (suc i) to l h = ascending-in n t ends i to l.1 h

pub start-within : (n from : ℕ) (ends : List ℕ) (i : ℕ) → AreAscendingEnds n from ends → start_of from ends i ≤ n
start-within n from [] i l = omega (arith, l)
start-within n from (to ∷ ends) zero l = ascending-behind n from (to ∷ ends) l
start-within n from (to ∷ ends) (suc i) l = start-within n to ends i l.1

-- a name begins where the one before it ends
pub start-first : (from : ℕ) (ends : List ℕ) → start_of from ends 0 ≡ from
start-first from [] = refl
start-first from (to ∷ ends) = refl

pub start-next : (from : ℕ) (ends : List ℕ) (i to : ℕ) → slice_get ends i ≡ Some to → start_of from ends (suc i) ≡ to
start-next from [] i to h = cc
start-next from (t ∷ ends) zero to h = start-first t ends ∙ same_Some _ _ h
start-next from (t ∷ ends) (suc i) to h = start-next t ends i to h

pub name-at : (xs : List ℕ) (from : ℕ) (ends : List ℕ) (i to : ℕ) → slice_get ends i ≡ Some to → slice_range xs (start_of from ends i) to ≡ name_at (names_from xs from ends) i
name-at xs from [] i to h = cc
name-at xs from (t ∷ ends) zero to h = ap (slice_range xs from) (sym (same_Some _ _ h))
name-at xs from (t ∷ ends) (suc i) to h = name-at xs t ends i to h

range-more : (xs more : List ℕ) (from to : ℕ) → from ≤ to → to ≤ length xs → slice_range (xs ++ more) from to ≡ slice_range xs from to
range-more xs more from to p q =
    let e = drop-append-le from xs more (omega arith) in
    let l = length-drop from xs in
    let f = take-append-le (to - from) (drop from xs) more (omega (arith, l)) in
    ap (take (to - from)) e ∙ f

range-take : (xs : List ℕ) (n from to : ℕ) → from ≤ to → to ≤ n → n ≤ length xs → slice_range (take n xs) from to ≡ slice_range xs from to
range-take xs n from to p q r =
    let l = length-take-le n xs r in
    sym (range-more (take n xs) (drop n xs) from to p (omega (arith, l))) ∙ ap (λ ys. slice_range ys from to) (take-append-drop n xs)

range-last : (xs ys : List ℕ) (from to : ℕ) → from ≡ length xs → to ≡ length xs + length ys → slice_range (xs ++ ys) from to ≡ ys
range-last xs ys from to p q =
    let k : to - from ≡ length ys = omega arith in
    ap (λ n. take n (drop from (xs ++ ys))) k ∙ (ap (λ n. take (length ys) (drop n (xs ++ ys))) p ∙ (ap (take (length ys)) (drop-append_seam xs ys) ∙ take_all (length ys) ys (omega arith)))

-- a name that is appended at the end
pub push-name : (xs ys : List ℕ) (from : ℕ) (ends : List ℕ) (to : ℕ) → AreAscendingEnds (length xs) from ends → to ≡ length xs + length ys → names_from (xs ++ ys) from (ends ++ to ∷ []) ≡ names_from xs from ends ++ ys ∷ []
push-name xs ys from [] to l q = ap (λ r. r ∷ []) (range-last xs ys from to (sym l) q)
push-name xs ys from (t ∷ ends) to l q =
    let first = range-more xs ys from t l.0 (ascending-behind (length xs) t ends l.1) in
    let rest = push-name xs ys t ends to l.1 q in
    cc

pub ascending-push : (n m from : ℕ) (ends : List ℕ) → n ≤ m → AreAscendingEnds n from ends → AreAscendingEnds m from (ends ++ m ∷ [])
ascending-push n m from [] le l = (omega (arith, l, le), refl)
ascending-push n m from (t ∷ ends) le l = (l.0, ascending-push n m t ends le l.1)

-- the names before one of them end where that one begins
pub ascending-take : (n from : ℕ) (ends : List ℕ) (i : ℕ) → i < length ends → AreAscendingEnds n from ends → AreAscendingEnds (start_of from ends i) from (take i ends)
ascending-take n from [] i h l = absurd (omega (arith, h))
ascending-take n from (t ∷ ends) zero h l = refl
ascending-take n from (t ∷ ends) (suc i) h l = (l.0, ascending-take n t ends i (omega (arith, h)) l.1)

pub names_from-take : (xs : List ℕ) (from : ℕ) (ends : List ℕ) (i : ℕ) → i < length ends → AreAscendingEnds (length xs) from ends → names_from (take (start_of from ends i) xs) from (take i ends) ≡ take i (names_from xs from ends)
names_from-take xs from [] i h l = absurd (omega (arith, h))
names_from-take xs from (t ∷ ends) zero h l = refl
names_from-take xs from (t ∷ ends) (suc i) h l =
    let first = range-take xs (start_of t ends i) from t l.0 (ascending-start (length xs) t ends i l.1) (start-within (length xs) t ends i l.1) in
    let rest = names_from-take xs t ends i (omega (arith, h)) l.1 in
    cc
