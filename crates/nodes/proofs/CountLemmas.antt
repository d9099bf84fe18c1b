-- There are as many locks as nodes.
use Rattle.nodes.proofs.Words.{◌≡◌, ℕ, suc, Option, List, [], ◌∷◌, length, refl, ap, new_cells}

pub new_cells-length : (limit : Option ℕ) (k : ℕ) (weights : List ℕ) → length (new_cells limit k weights) ≡ length weights
new_cells-length limit k [] = refl
new_cells-length limit k (w ∷ ws) = ap suc (new_cells-length limit (suc k) ws)
