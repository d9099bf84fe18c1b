-- Numbers of letters, marks among numbers, and letters by their bounds.
use Rattle.explain.proofs.Words.{◌≡◌, ◌≢◌, ◌⊎◌, ℕ, zero, suc, ◌+◌, ◌-◌, ◌*◌, ◌<◌, ◌≤◌, Bool, true, false, cond, ◌&&◌, nat_lt, List, [], ◌∷◌, ◌++◌, length, Option, Some, None, slice_get, slice_index_or, refl, option_map, sym, ◌∙◌, ap, arith, append_assoc, inl, inr, none-some, same_Some, Name, is_empty, Cite, Recall, is_leading, is_last, number_after, items_of, before_rest, last_bounds, marks_in, zeros}

-- ---- lists

pub at-append : (xs ys : List ℕ) (i x : ℕ) → length xs ≡ i → slice_get (xs ++ ys) i ≡ Some x → (more : List ℕ) × (ys ≡ x ∷ more)
at-append [] [] zero x e h = cc
at-append [] [] (suc i) x e h = absurd (omega (arith, e))
at-append [] (y ∷ ys) zero x e h = (ys, let same : y ≡ x = cc in ap (λ z. z ∷ ys) same)
at-append [] (y ∷ ys) (suc i) x e h = absurd (omega (arith, e))
at-append (z ∷ xs) ys zero x e h = absurd (omega (arith, e))
at-append (z ∷ xs) ys (suc i) x e h = at-append xs ys i x (omega (arith, e)) h

pub not-empty : (xs : List ℕ) (x : ℕ) → xs ++ x ∷ [] ≡ [] → ⊥
not-empty [] x h = cc
not-empty (y ∷ xs) x h = cc

-- ---- marks

pub marks-zeros : (names : List Name) (numbers : List ℕ) → marks_in (items_of names numbers) ≡ zeros numbers
marks-zeros names [] = refl
marks-zeros names (zero ∷ numbers) = ap suc (marks-zeros names numbers)
marks-zeros names (suc n ∷ numbers) = by (marks-zeros names numbers) (nat_lt n (length names))
  where
    by : marks_in (items_of names numbers) ≡ zeros numbers → (t : Bool) → marks_in (cond t (Cite (slice_index_or names n [])) (Recall (suc (n - length names))) ∷ items_of names numbers) ≡ zeros numbers
    by rest true = rest
    by rest false = rest

pub zeros-number : (numbers : List ℕ) (n : ℕ) → 1 ≤ n → zeros (numbers ++ n ∷ []) ≡ zeros numbers
zeros-number [] zero h = absurd (omega (arith, h))
zeros-number [] (suc n) h = refl
zeros-number (zero ∷ numbers) n h = ap suc (zeros-number numbers n h)
zeros-number (suc m ∷ numbers) n h = zeros-number numbers n h

pub zeros-mark : (numbers : List ℕ) → zeros (numbers ++ 0 ∷ []) ≡ suc (zeros numbers)
zeros-mark [] = refl
zeros-mark (zero ∷ numbers) = ap suc (zeros-mark numbers)
zeros-mark (suc m ∷ numbers) = zeros-mark numbers

pub before-push : (numbers : List ℕ) (n : ℕ) (o : Option (List ℕ)) → before_rest numbers (option_map (λ more. n ∷ more) o) ≡ before_rest (numbers ++ n ∷ []) o
before-push numbers n None = refl
before-push numbers n (Some more) = ap Some (sym (append_assoc numbers (n ∷ []) more))

-- ---- numbers above a limit

-- each word that begins so has a number above the limit
pub over : (limit digits : ℕ) (word : Name) (n : ℕ) → limit ≤ 20 * digits → number_after digits word ≡ Some n → limit < n
over limit digits [] n h e = absurd (none-some n e)
over limit digits (letter ∷ word) n h e = by (λ more. over limit (5 * digits + (letter - 84)) word n (omega (arith, h)) more) (is_leading letter) (is_last letter) refl (is_empty word) e
  where
    by : (number_after (5 * digits + (letter - 84)) word ≡ Some n → limit < n) → (f l : Bool) → is_last letter ≡ l → (m : Bool)
        → cond f (number_after (5 * digits + (letter - 84)) word) (cond (l && m) (Some (20 * digits + (letter - 64))) None) ≡ Some n → limit < n
    by rest true l q m e = rest e
    by rest false true q true e =
        let same : 20 * digits + (letter - 64) ≡ n = same_Some (20 * digits + (letter - 64)) n e in
        let low = (last_bounds letter q).0 in
        omega (arith, h, same, low)
    by rest false true q false e = absurd (none-some n e)
    by rest false false q m e = absurd (none-some n e)

pub last-over : (limit digits letter : ℕ) (word : Name) (n : ℕ) → is_leading letter ≡ false → limit < 20 * digits + (letter - 64) → number_after digits (letter ∷ word) ≡ Some n → limit < n
last-over limit digits letter word n first h e = by (is_last letter && is_empty word) (sym (ap (λ f. cond f (number_after (5 * digits + (letter - 84)) word) (cond (is_last letter && is_empty word) (Some (20 * digits + (letter - 64))) None)) first) ∙ e)
  where
    by : (l : Bool) → cond l (Some (20 * digits + (letter - 64))) None ≡ Some n → limit < n
    by true e = let same : 20 * digits + (letter - 64) ≡ n = same_Some (20 * digits + (letter - 64)) n e in omega (arith, h, same)
    by false e = absurd (none-some n e)

-- ---- letters and tests

pub zero-or : (n : ℕ) → (n ≡ 0) ⊎ (n ≢ 0)
zero-or zero = inl refl
zero-or (suc n) = inr (λ e. omega (arith, e))
