-- The `$p` after the first statements, as jobs for a pool of workers.
-- Source: none; for the private functions of `proof_jobs`.
-- The code keeps their positions, in order.
use Rattle.std.specs.Prelude.{◌≡◌, ℕ, zero, suc, ◌+◌, ◌-◌, ◌<◌, ◌≤◌, false, List, [], ◌∷◌, length, slice_get, get_or, Option, Some, None, Result, IfOk}
use Rattle.std.specs.Borrow.{Bor, MutBor}
use Rattle.verify.specs.Metered.{Metered, is_past, with_work}
use Rattle.verify_pool.specs.FirstStop.{IsFirstStop}
use Rattle.verify_pool.specs.declared.checkers.Checkers.{Checkers}
use Rattle.verify_pool.specs.declared.outcome.Outcome.{Outcome}
use Rattle.verify_pool.specs.declared.outcome.Outcome.TheVariants.{AllRight, Wrong, TooCostly}
use Rattle.library.specs.Words.{Stmt, Database, bares, before, stmt_at, IsProvable}
use Rattle.library.specs.Judging.{IsPastAt, IsProvedIfProvable}
use Rattle.library.specs.Work.{theorem_work}

-- ---- their work

-- what the proof of a statement after S counts, if there is a statement
abbrev pub theorem_work_of : Database → Option Stmt → ℕ
theorem_work_of S None = 0
theorem_work_of S (Some s) = theorem_work S s

-- what the proof of the statement at a position counts, if it is a `$p`
abbrev pub proof_work_at : Database → ℕ → ℕ
proof_work_at S at = theorem_work_of (before (bares S) at) (stmt_at S at)

-- what the proofs of the k statements after the first `start` count
abbrev pub proofs_work : Database → ℕ → ℕ → ℕ
proofs_work S start zero = 0
proofs_work S start (suc k) = proofs_work S start k + proof_work_at S (start + suc k)

-- ---- jobs

-- statements, and positions among them
pub record ProofsAt : Type 0 where
  pub statements : Database
  pub positions : List ℕ

-- if a `$p` is at the position of that index, it is proved
abbrev pub IsRightProof : ProofsAt → ℕ → Type 0
IsRightProof proofs k = IsProvedIfProvable proofs.statements (get_or proofs.positions k 0)

-- what the proof at the position of that index counts
abbrev pub work_of_proof : ProofsAt → ℕ → ℕ
work_of_proof proofs k = proof_work_at proofs.statements (get_or proofs.positions k 0)

-- positions among these statements, given with their frames
pub record AreProofs (S frames : Database) (positions : List ℕ) : Type 0 where
  pub same : frames ≡ bares S
  pub placed : (k at : ℕ) → slice_get positions k ≡ Some at → (1 ≤ at) × (at ≤ length S)

-- exactly the positions of the `$p` after the first `start` statements, up to `end`, in order
abbrev pub AreProvablesAfter : Database → ℕ → ℕ → List ℕ → Type 0
AreProvablesAfter S start end [] = (at : ℕ) (s : Stmt) → start < at → at ≤ end → ¬ IsProvable S at s
AreProvablesAfter S start end (at ∷ positions) =
    (start < at) × (at ≤ end) × ((m : ℕ) (s : Stmt) → start < m → m < at → ¬ IsProvable S m s) × AreProvablesAfter S at end positions

-- a function with this contract judges proofs in order, and counts them
abbrev pub JudgesProofs : {E : Type 0} → (Bor ProofsAt → MutBor Checkers → MutBor Metered → Type 0)
    → (Bor ProofsAt → MutBor Checkers → MutBor Metered → Result Outcome E → MutBor Checkers → MutBor Metered → Type 0) → Type 0
JudgesProofs {E} pre post =
    ((proofs : Bor ProofsAt) (checkers : MutBor Checkers) (meter : MutBor Metered) → is_past meter.now ≡ false → pre proofs checkers meter)
    × ((proofs : Bor ProofsAt) (checkers : MutBor Checkers) (meter : MutBor Metered) (r : Result Outcome E) (checkers' : MutBor Checkers) (meter' : MutBor Metered)
    → post proofs checkers meter r checkers' meter'
    → IfOk r (IsFirstStop (IsRightProof proofs.now) (work_of_proof proofs.now) (length proofs.now.positions) meter.now meter'.now))

-- ---- their outcome, by position

-- each `$p` after the first `start` statements and before this position is proved
abbrev pub AreProvedBefore : Database → ℕ → ℕ → Type 0
AreProvedBefore S start at = (m : ℕ) → start < m → m < at → IsProvedIfProvable S m

-- after the first `start` statements each `$p` is proved; or the `$p` at a position is the least
-- that is not proved, or with which the meter is past its limit
abbrev pub IsProofStop : Database → ℕ → Metered → Metered → Outcome → Type 0
IsProofStop S start m m' AllRight =
    ((at : ℕ) → start < at → at ≤ length S → IsProvedIfProvable S at)
    × (m' ≡ with_work m (proofs_work S start (length S - start))) × (is_past m' ≡ false)
IsProofStop S start m m' (Wrong at) =
    (start < at) × (at ≤ length S) × (¬ IsProvedIfProvable S at) × AreProvedBefore S start at
    × (is_past (with_work m (proofs_work S start (at - start))) ≡ false)
IsProofStop S start m m' (TooCostly at) =
    (start < at) × (at ≤ length S) × AreProvedBefore S start at × IsPastAt m (proofs_work S start) (at - start)
