-- The work of a text, and what is counted of a text until its outcome is known.
-- Source: this project's profile (docs/COSTS.md).
-- The code has one count, which rises as it reads, adds and proves; here are lists of what the
-- bytes, the statements and the proofs count, in the order in which they are judged.
use Rattle.std.specs.Prelude.{ℕ, ◌+◌, ◌-◌, ◌*◌, nat_lt, if◌then◌else◌, List, [], ◌∷◌, ◌++◌, length, take, Option, Some, None}
use Rattle.mm_read.specs.declared.stmt.Stmt.TheVariants.{Var, Float, Ess}
use Rattle.scope.specs.Active.{bare}
use Rattle.frame.specs.Sizes.{assertion_size}
use Rattle.verify.specs.Work.{proof_work}
use Rattle.library.specs.Words.{Stmt, Const, Axiom, Prove, Database, bares}
use Rattle.library.specs.declared.verdict.Cause.{Cause}
use Rattle.library.specs.declared.verdict.Cause.TheVariants.{LeavesHypotheses, Rule, Proof, Unfinished}

-- ---- what is counted

-- what is counted, each with the number of its statement in the text; its bytes have the number 0
abbrev pub Counts : Type 0
Counts = List (ℕ × ℕ)

abbrev pub total : Counts → ℕ
total [] = 0
total (c ∷ counts) = c.1 + total counts

-- what a statement after S counts without its proof: 64 for each symbol that it declares, 64 for
-- its label, and the size of an assertion
abbrev pub statement_work : Database → Stmt → ℕ
statement_work S (Const names) = 64 * length names
statement_work S (Var names) = 64 * length names
statement_work S (Float label typecode variable) = 64
statement_work S (Ess label expr) = 64
statement_work S (Axiom label expr) = 64 + assertion_size S (Axiom label expr)
statement_work S (Prove label expr proof) = 64 + assertion_size S (Prove label expr proof)
statement_work S s = 0

-- what the proof of a statement after S counts, if it is a `$p`
abbrev pub theorem_work : Database → Stmt → ℕ
theorem_work S (Prove label expr proof) = proof_work S (Prove label expr proof) proof
theorem_work S s = 0

-- what each of the statements T after S counts by `work`, if the first has the number n
abbrev pub counts_from : (Database → Stmt → ℕ) → ℕ → Database → Database → Counts
counts_from work n S [] = []
counts_from work n S (s ∷ T) = (n, work S s) ∷ counts_from work (n + 1) (S ++ bare s ∷ []) T

-- what the statements of a text after L count, without and with their proofs (`bares` leaves the
-- proofs out: neither sizes nor proofs depend on earlier ones)
abbrev pub statement_counts : Database → Database → Counts
statement_counts L T = counts_from statement_work 1 (bares L) T

abbrev pub proof_counts : Database → Database → Counts
proof_counts L T = counts_from theorem_work 1 (bares L) T

-- what a text that reads as T counts, after L: its bytes, its statements, and their proofs
abbrev pub text_counts : Database → List ℕ → Database → Counts
text_counts L text T = (0, length text) ∷ statement_counts L T ++ proof_counts L T

-- the work of a text that reads as T, after L
abbrev pub text_work : Database → List ℕ → Database → ℕ
text_work L text T = total (text_counts L text T)

-- ---- how far a text is judged

-- the stages of the judging of a text: its bytes are counted; also its first statements; also all
-- statements and the proofs of the first ones
pub data Stage : Type 0 where
  bytes_alone : Stage
  to_statement : ℕ → Stage
  to_proof : ℕ → Stage

-- what is counted up to a stage of a text that reads as T, after L
abbrev pub counts_to : Database → List ℕ → Database → Stage → Counts
counts_to L text T bytes_alone = (0, length text) ∷ []
counts_to L text T (to_statement n) = (0, length text) ∷ statement_counts L (take n T)
counts_to L text T (to_proof n) = (0, length text) ∷ statement_counts L T ++ proof_counts L (take n T)

-- the stage at which the outcome of a text that reads as T is known: it is added (`None`), or
-- refused for a cause
abbrev pub stage_of : Database → Option Cause → Stage
stage_of T None = to_proof (length T)
stage_of T (Some (Rule n rule)) = to_statement (n - 1)
stage_of T (Some (LeavesHypotheses n)) = to_statement (length T)
stage_of T (Some (Proof n)) = to_proof n
stage_of T (Some (Unfinished n)) = to_proof n
stage_of T (Some cause) = bytes_alone

-- what is counted of a text until its outcome is known
abbrev pub judged_counts : Database → List ℕ → Database → Option Cause → Counts
judged_counts L text T outcome = counts_to L text T (stage_of T outcome)

-- ---- the limit

-- the number of the first statement with which the count is past a limit, if it is
abbrev pub first_past : ℕ → Counts → Option ℕ
first_past limit [] = None
first_past limit (c ∷ counts) = if nat_lt limit c.1 then Some c.0 else first_past (limit - c.1) counts

-- the same if there may be no limit
abbrev pub past_limit : Option ℕ → Counts → Option ℕ
past_limit None counts = None
past_limit (Some limit) counts = first_past limit counts
