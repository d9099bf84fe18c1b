-- A map from lists of numbers, after one list is set, has the same values for all other lists.
use Rattle.steps.proofs.Words.{◌≡◌, ◌≢◌, List, ℕ, Option, Vec, Global, BTreeMap, UpdatesBy, eq_by_cmp_equiv, slice_cmp, nat_list_cmp_total, nat_cmp, is_eq, place_of, apart, keeps}

pub others-same : (xs : List ℕ) (m n : BTreeMap (Vec ℕ Global) ℕ) (w : Option ℕ) → UpdatesBy (λ a b. slice_cmp nat_cmp a.items b.items) (λ k. slice_cmp nat_cmp xs k.items) m n w
    → (ys : List ℕ) → ys ≢ xs → place_of n ys ≡ place_of m ys
others-same xs m n w h ys ne =
    keeps _ _ m.entries n.entries h.3 (λ k. is_eq (slice_cmp nat_cmp ys k.items)) (λ x y. (eq_by_cmp_equiv nat_list_cmp_total).congr ys x.items y.items) (λ k e. apart xs ys k.items ne e)
