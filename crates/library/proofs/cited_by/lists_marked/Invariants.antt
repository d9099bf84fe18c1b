use Rattle.library.proofs.Words.{◌≡◌, ℕ, Name, has_name, Stmt, Carries, IsMarked, listed_in}
use Rattle.library.proofs.cited_by.lists_marked.Given as goal

abbrev pub invariant-loop-token : goal.invariant-loop-token
invariant-loop-token l = (a : ℕ) (s : Stmt) (label : Name) → IsMarked l.marks a → Carries l.frames.statements a s label → has_name label (listed_in l.tokens) ≡ has_name label (listed_in l.remaining)
