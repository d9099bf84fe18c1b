-- The ranges of the rows in one buffer.
use Rattle.steps.proofs.Words.{◌≡◌, ℕ, zero, suc, ◌+◌, ◌<◌, ◌≤◌, List, [], ◌∷◌, ◌++◌, length, map, take, get_or, refl, ◌∙◌, ap, subst, sym, arith, StoredStep, row_of, AreInBuffer}

pub map-more : {B : Type 0} (f : ℕ → B) (xs : List ℕ) (i : ℕ) → i < length xs → map f (take (i + 1) xs) ≡ map f (take i xs) ++ f (get_or xs i 0) ∷ []
map-more f [] i h = absurd (omega (arith, h))
map-more f (x ∷ xs) zero h = refl
map-more f (x ∷ xs) (suc i) h = let e : suc i + 1 ≡ suc (i + 1) = omega arith in ap (λ k. map f (take k (x ∷ xs))) e ∙ ap (λ r. f x ∷ r) (map-more f xs i (omega (arith, h)))

pub got-within : (xs : List ℕ) (n : ℕ) (ps : List StoredStep) (k : ℕ) (p d : StoredStep) → AreInBuffer n ps → k < length (map (row_of xs) ps) → p ≡ get_or ps k d → (p.range.start ≤ p.range.end) × (p.range.end ≤ n)
got-within xs n [] k p d b h e = absurd (omega (arith, h))
got-within xs n (q ∷ ps) zero p d b h e = subst (λ v. (v.range.start ≤ v.range.end) × (v.range.end ≤ n)) (sym e) (b.0, b.1)
got-within xs n (q ∷ ps) (suc k) p d b h e = got-within xs n ps k p d b.2 (omega (arith, h)) e
