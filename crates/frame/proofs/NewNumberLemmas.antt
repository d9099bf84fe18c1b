-- The numbers of a list, each once, in the order in which they are met.
use Rattle.frame.proofs.Words.{◌≡◌, ℕ, ◌==◌, Bool, true, false, cond, not, ◌&&◌, ◌||◌, List, [], ◌∷◌, ◌++◌, refl, sym, ◌∙◌, ap, arith, append-nil, and-false, or_assoc, or_comm, has_number, IsEachOnce}
use Rattle.frame.specs.NumberedWork.{new_numbers, read_after}
use Rattle.frame.proofs.PairListLemmas.{has-append, own}

-- only which numbers were met counts
pub new-same : (met met' xs : List ℕ) → ((c : ℕ) → has_number met c ≡ has_number met' c) → new_numbers met xs ≡ new_numbers met' xs
new-same met met' [] same = refl
new-same met met' (x ∷ xs) same =
    ap (λ b. cond b (new_numbers met xs) (x ∷ new_numbers (x ∷ met) xs)) (same x)
    ∙ (ap (λ l. cond (has_number met' x) l (x ∷ new_numbers (x ∷ met) xs)) (new-same met met' xs same)
    ∙ ap (λ l. cond (has_number met' x) (new_numbers met' xs) (x ∷ l)) (new-same (x ∷ met) (x ∷ met') xs (λ c. ap (λ b. (x == c) || b) (same c))))

pub new-append : (met xs ys : List ℕ) → new_numbers met (xs ++ ys) ≡ new_numbers met xs ++ new_numbers (read_after met xs) ys
new-append met [] ys = ap (λ l. new_numbers l ys) (sym (append-nil met))
new-append met (x ∷ xs) ys = by (has_number met x) (new-append met xs ys) (new-append (x ∷ met) xs ys)
  where
    moved : (c : ℕ) → has_number ((x ∷ met) ++ new_numbers (x ∷ met) xs) c ≡ has_number (met ++ x ∷ new_numbers (x ∷ met) xs) c
    moved c = has-append (x ∷ met) (new_numbers (x ∷ met) xs) c ∙ (ap (λ b. b || has_number (new_numbers (x ∷ met) xs) c) (or_comm (x == c) (has_number met c)) ∙ or_assoc (has_number met c) (x == c) (has_number (new_numbers (x ∷ met) xs) c) ∙ sym (has-append met (x ∷ new_numbers (x ∷ met) xs) c))

    by : (b : Bool) → new_numbers met (xs ++ ys) ≡ new_numbers met xs ++ new_numbers (read_after met xs) ys
        → new_numbers (x ∷ met) (xs ++ ys) ≡ new_numbers (x ∷ met) xs ++ new_numbers (read_after (x ∷ met) xs) ys
        → cond b (new_numbers met (xs ++ ys)) (x ∷ new_numbers (x ∷ met) (xs ++ ys))
        ≡ cond b (new_numbers met xs) (x ∷ new_numbers (x ∷ met) xs) ++ new_numbers (met ++ cond b (new_numbers met xs) (x ∷ new_numbers (x ∷ met) xs)) ys
    by true skip read = skip
    by false skip read = ap (λ l. x ∷ l) (read ∙ ap (λ l. new_numbers (x ∷ met) xs ++ l) (new-same (read_after (x ∷ met) xs) (met ++ x ∷ new_numbers (x ∷ met) xs) ys moved))

pub new-has : (met xs : List ℕ) (c : ℕ) → has_number (new_numbers met xs) c ≡ (has_number xs c && not (has_number met c))
new-has met [] c = refl
new-has met (x ∷ xs) c = by (has_number met x) refl (new-has met xs c) (new-has (x ∷ met) xs c)
  where
    by : (b : Bool) → has_number met x ≡ b → has_number (new_numbers met xs) c ≡ (has_number xs c && not (has_number met c))
        → has_number (new_numbers (x ∷ met) xs) c ≡ (has_number xs c && not ((x == c) || has_number met c))
        → has_number (cond b (new_numbers met xs) (x ∷ new_numbers (x ∷ met) xs)) c ≡ (((x == c) || has_number xs c) && not (has_number met c))
    by true e skip read = skip ∙ one (x == c) refl
      where
        one : (t : Bool) → (x == c) ≡ t → (has_number xs c && not (has_number met c)) ≡ ((t || has_number xs c) && not (has_number met c))
        one true k = let same : x ≡ c = grind (arith, k) in rw (sym (ap (has_number met) same) ∙ e) (and-false (has_number xs c))
        one false k = refl
    by false e skip read = ap (λ b. (x == c) || b) read ∙ one (x == c) refl
      where
        one : (t : Bool) → (x == c) ≡ t → (t || (has_number xs c && not (t || has_number met c))) ≡ ((t || has_number xs c) && not (has_number met c))
        one true k = let same : x ≡ c = grind (arith, k) in ap not (sym e ∙ ap (has_number met) same)
        one false k = refl

pub new-once : (met xs : List ℕ) → IsEachOnce (new_numbers met xs)
new-once met [] = tt
new-once met (x ∷ xs) = by (has_number met x) (new-once met xs) (new-once (x ∷ met) xs)
  where
    by : (b : Bool) → IsEachOnce (new_numbers met xs) → IsEachOnce (new_numbers (x ∷ met) xs) → IsEachOnce (cond b (new_numbers met xs) (x ∷ new_numbers (x ∷ met) xs))
    by true skip read = skip
    by false skip read = (new-has (x ∷ met) xs x ∙ (ap (λ b. has_number xs x && not (b || has_number met x)) (own x) ∙ and-false (has_number xs x)), read)
