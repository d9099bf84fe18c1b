use Rattle.subst.proofs.Words.{◌≡◌, ◌+◌, ◌≤◌, ℕ, List, length, min, take, code_apply, images_at, IsWritten}
use Rattle.subst.proofs.writing.write_applied.Given as goal

-- the result for the first symbols is written, and there is room for that of the others
pub record IsFilled (old new : List ℕ) (at : ℕ) (e : List ℕ) (end k n last limit : ℕ) : Type 0 where
  pub written : IsWritten old new at e end
  pub few : end ≤ last + k
  pub room : last + n + 16 ≡ min (length old) (at + limit + 16)
  pub count : length new ≡ length old

abbrev pub invariant-loop-symbol : goal.invariant-loop-symbol
invariant-loop-symbol l =
    IsFilled l.initial.symbols l.symbols l.at (code_apply (images_at (take l.at l.initial.symbols) l.images) (take l.symbol-index l.expr)) l.end l.symbol-index (length l.expr) l.last l.limit
