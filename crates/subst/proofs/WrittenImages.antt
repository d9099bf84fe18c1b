-- Images substituted symbol by symbol.
use Rattle.subst.proofs.Words.{◌≡◌, ℕ, zero, suc, ◌+◌, ◌≤◌, ◌<◌, List, [], ◌∷◌, ◌++◌, length, take, get_or, sym, ◌∙◌, ap, arith, add-one, append_assoc, append-nil, length-append, CodeImages, code_image, code_apply}

-- the result for one more symbol is the result so far, followed by the image of the symbol
more_taken : (σ : CodeImages) (e : List ℕ) (i : ℕ) → i < length e
    → code_apply σ (take (suc i) e) ≡ code_apply σ (take i e) ++ code_image σ (get_or e i 0)
more_taken σ [] i h = absurd (omega arith)
more_taken σ (x ∷ e) zero h = append-nil (code_image σ x)
more_taken σ (x ∷ e) (suc i) h =
    ap (λ r. code_image σ x ++ r) (more_taken σ e i (omega arith))
    ∙ sym (append_assoc (code_image σ x) (code_apply σ (take i e)) (code_image σ (get_or e i 0)))

-- the result for the first i + 1 symbols is that for the first i, followed by the image of the next
pub apply-take : (σ : CodeImages) (e : List ℕ) (i : ℕ) → i < length e
    → code_apply σ (take (i + 1) e) ≡ code_apply σ (take i e) ++ code_image σ (get_or e i 0)
apply-take σ e i h = ap (λ n. code_apply σ (take n e)) (add-one i) ∙ more_taken σ e i h

pub len-take : (σ : CodeImages) (e : List ℕ) (i : ℕ) → i < length e
    → length (code_apply σ (take (i + 1) e)) ≡ length (code_apply σ (take i e)) + length (code_image σ (get_or e i 0))
len-take σ e i h = ap length (apply-take σ e i h) ∙ length-append (code_apply σ (take i e)) (code_image σ (get_or e i 0))

-- the result for the first n symbols is not longer than that for all
pub len-within : (σ : CodeImages) (e : List ℕ) (n : ℕ) → length (code_apply σ (take n e)) ≤ length (code_apply σ e)
len-within σ [] zero = omega arith
len-within σ [] (suc n) = omega arith
len-within σ (x ∷ e) zero = omega arith
len-within σ (x ∷ e) (suc n) =
    omega (arith, length-append (code_image σ x) (code_apply σ (take n e)), length-append (code_image σ x) (code_apply σ e), len-within σ e n)
