-- Numbers that are in lists.
use Rattle.frame.proofs.NewNumberLemmas.{new-has}
use Rattle.frame.proofs.PairListLemmas.{turn}
use Rattle.frame.specs.MandatoryPairs.{has_number as is_met}
use Rattle.subst.proofs.Words.{◌≡◌, ℕ, ◌==◌, ◌||◌, ◌&&◌, Bool, true, false, List, [], ◌∷◌, refl, list_any, sym, ◌∙◌, ap, new_numbers}

-- the number is in the list
abbrev pub has_number : List ℕ → ℕ → Bool
has_number list u = list_any (λ c. u == c) list

-- the other form of the test
pub met-has : (list : List ℕ) (u : ℕ) → is_met list u ≡ has_number list u
met-has [] u = refl
met-has (x ∷ list) u = ap (λ b. b || is_met list u) (turn x u) ∙ ap (λ b. (u == x) || b) (met-has list u)

pub has-new : (xs : List ℕ) (u : ℕ) → has_number (new_numbers [] xs) u ≡ has_number xs u
has-new xs u = sym (met-has (new_numbers [] xs) u) ∙ (new-has [] xs u ∙ (and_true (is_met xs u) ∙ met-has xs u))
  where
    and_true : (b : Bool) → (b && true) ≡ b
    and_true true = refl
    and_true false = refl
