-- Tables whose rows have the same steps, place by place, have the same steps.
use Rattle.std.proofs.Common.{◌≡◌, ℕ, suc, ◌<◌, List, [], ◌∷◌, length, get_or, ap, ◌∙◌, arith, refl}
use Rattle.steps.specs.StepTable.{Step}
use Rattle.steps.specs.Rows.{Row, no_row, steps_of}

-- a step is its position and the places that it takes
pub step-same : (a b : Step) → a.position ≡ b.position → a.taken ≡ b.taken → a ≡ b
step-same a b p q = ap (λ (n : ℕ). let s : Step = record { position = n; taken = a.taken } in s) p ∙ ap (λ (t : List ℕ). let s : Step = record { position = b.position; taken = t } in s) q

pub steps-same : (left right : List Row) → length left ≡ length right → ((k : ℕ) → k < length left → (get_or left k no_row).step ≡ (get_or right k no_row).step) → steps_of left ≡ steps_of right
steps-same [] [] count each = refl
steps-same [] (r ∷ right) count each = absurd (omega (arith, count))
steps-same (l ∷ left) [] count each = absurd (omega (arith, count))
steps-same (l ∷ left) (r ∷ right) count each =
    let here : l.step ≡ r.step = each 0 (omega arith) in
    ap (λ s. s ∷ steps_of left) here
    ∙ ap (λ ss. r.step ∷ ss) (steps-same left right (omega (arith, count)) (λ k less. each (suc k) (omega (arith, less))))
