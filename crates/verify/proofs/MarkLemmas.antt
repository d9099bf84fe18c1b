-- Marks in a list of Booleans.
use Rattle.verify.proofs.Words.{◌∙◌, ap, arith, append-nil, take_all, ◌≡◌, ℕ, zero, suc, Bool, true, false, List, ◌∷◌, ◌++◌, length, take, drop, replicate, get_or, slice_set, refl, drop_all}

-- a mark stays when another index is marked
pub set_true : (marks : List Bool) (i j : ℕ) → get_or marks j false ≡ true → get_or (slice_set marks i true) j false ≡ true
set_true (m ∷ marks) zero zero h = refl
set_true (m ∷ marks) (suc i) (suc j) h = set_true marks i j h
set_true marks i j h = h

-- a list of cleared marks has no mark
pub no-mark : (n k : ℕ) → get_or (replicate n false) k false ≡ false
no-mark (suc n) (suc k) = no-mark n k
no-mark n k = refl

-- if a whole list is lent and comes back with the same length, it is replaced by the one that came
-- back
pub lent-whole : (n : ℕ) (s old : List Bool) → length s ≡ length old → n ≡ length old → take n (s ++ drop (length s) old) ≡ s
lent-whole n s old same all =
    ap (λ r. take n (s ++ r)) (drop_all (length s) old (omega (arith, same))) ∙ (ap (take n) (append-nil s) ∙ take_all n s (omega (arith, same, all)))
