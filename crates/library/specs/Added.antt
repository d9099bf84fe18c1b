-- The outcome of adding statements, on one thread or with proofs judged ahead.
-- Source: this project's profile; Metamath, 4.2 and appendix B.
-- The code judges the proofs of a first part while all statements are added, since a `$p` stays
-- proved when others are appended.
use Rattle.std.specs.Prelude.{◌≡◌, ◌⊎◌, ℕ, ◌+◌, ◌-◌, ◌*◌, ◌≤◌, true, false, if◌then◌else◌, [], ◌∷◌, ◌++◌, length, take, drop, IsTrue, Option, Some, None, Ok, IfOk}
use Rattle.std.specs.Borrow.{Bor, MutBor}
use Rattle.scope.specs.Legal.{IsLegal, broken_rule}
use Rattle.scope.specs.Active.{bare}
use Rattle.scope.specs.declared.rule.Rule.{Rule as BrokenRule}
use Rattle.scope.specs.declared.steps.Steps.{Steps}
use Rattle.verify.specs.Metered.{Metered, is_past, with_work}
use Rattle.verify_pool.specs.declared.checkers.Checkers.{Checkers}
use Rattle.library.specs.Words.{Stmt, Database, AreShaped, bares, is_closed, is_unfinished, first_broken, proof_of, stmt_at}
use Rattle.library.specs.declared.adding.AddOutcome.{AddOutcome}
use Rattle.library.specs.declared.adding.StepCounts.{StepCounts}
use Rattle.library.specs.declared.adding.Tables.{Tables}
use Rattle.library.specs.declared.verdict.Cause.{Cause}
use Rattle.library.specs.declared.verdict.Cause.TheVariants.{Proof, Rule, TooCostly, Unfinished}
use Rattle.library.specs.Work.{counts_from, statement_work, total}
use Rattle.library.specs.Causes.{BreaksAfter}
use Rattle.library.specs.Judging.{IsPastAt, IsPrefix, AreProvedBetween, IsProvedIfProvable}
use Rattle.library.specs.ProofJobs.{IsProofStop, proofs_work}
use Rattle.verify_pool.specs.declared.outcome.Outcome.{Outcome}
use Rattle.verify_pool.specs.declared.outcome.Outcome.TheVariants.{AllRight, Wrong}
use Rattle.verify_pool.specs.declared.outcome.Outcome.TheVariants as pool

-- the number of statements that were given to rules and frames, by all threads
abbrev pub count_of : StepCounts → ℕ
count_of steps = steps.calling.count + steps.ahead.count

-- each `$p` up to this position is proved
abbrev pub AreProvedTo : Database → ℕ → Type 0
AreProvedTo S end = (at : ℕ) → at ≤ end → IsProvedIfProvable S at

-- up to this position each `$p` is proved, and this is what these proofs count
pub record IsProvedAhead (S : Database) (end work : ℕ) : Type 0 where
  pub within : end ≤ length S
  pub proved : AreProvedTo S end
  pub counted : work ≡ proofs_work S 0 end

-- ---- the work of statements

-- what the first k of the statements T after S count, without their proofs
abbrev pub added_work : Database → Database → ℕ → ℕ
added_work S T k = total (counts_from statement_work 1 S (take k T))

-- the statement s is added and counted
pub record IsOneMore (old new : Tables) (s : Stmt) (m m' : Metered) : Type 0 where
  pub legal : IsLegal old.frames.statements s
  pub rules_are : new.rules.statements ≡ old.rules.statements ++ bare s ∷ []
  pub frames_are : new.frames.statements ≡ old.frames.statements ++ bare s ∷ []
  pub metered : m' ≡ with_work m (statement_work old.frames.statements s)
  pub within : is_past m' ≡ false

-- the statement s is added, which has this number and counts its work; or it breaks a rule, or is
-- too costly
abbrev pub IsOneAdded : ℕ → Tables → Tables → Stmt → Metered → Metered → Option Cause → Type 0
IsOneAdded number old new s m m' None = IsOneMore old new s m m'
IsOneAdded number old new s m m' (Some (Rule n rule)) = (n ≡ number) × (broken_rule old.frames.statements s ≡ Some rule)
IsOneAdded number old new s m m' (Some (TooCostly n)) =
    (n ≡ number) × IsLegal old.frames.statements s × (is_past (with_work m (statement_work old.frames.statements s)) ≡ true)
IsOneAdded number old new s m m' (Some cause) = ⊥

-- where the adding of `count` statements ends, given the first broken rule and what the first k of
-- them count: all are added; a rule is broken; or the meter is past its limit
abbrev pub IsStop : Option (ℕ × BrokenRule) → ℕ → (ℕ → ℕ) → Metered → Metered → Option Cause → Type 0
IsStop broken count work m m' None = (broken ≡ None) × (m' ≡ with_work m (work count)) × (is_past m' ≡ false)
IsStop broken count work m m' (Some (Rule n rule)) = (broken ≡ Some (n, rule)) × (is_past (with_work m (work (n - 1))) ≡ false)
IsStop broken count work m m' (Some (TooCostly n)) = BreaksAfter n broken × (n ≤ count) × IsPastAt m work n
IsStop broken count work m m' (Some cause) = ⊥

-- ---- the tables

-- after the first `start` statements each `$p` up to a position is proved, and this is what these
-- proofs count
pub record AreKnown (S : Database) (start : ℕ) (a : AddOutcome) : Type 0 where
  pub proved : AreProvedBetween S start a.proved_to
  pub work : a.proofs_work ≡ proofs_work S start (a.proved_to - start)

-- the outcome of adding the statements T to tables: the tables then have them, or a statement
-- breaks a rule or is too costly
pub record IsAdded (old new : Tables) (m m' : Metered) (T : Database) (a : AddOutcome) : Type 0 where
  pub stopped : IfOk a.stopped (IsStop (first_broken 1 old.rules.statements T) (length T) (added_work old.rules.statements T) m m')
  pub rules_are : a.stopped ≡ Ok None → new.rules.statements ≡ old.rules.statements ++ bares T
  pub frames_are : a.stopped ≡ Ok None → new.frames.statements ≡ old.frames.statements ++ bares T
  pub closed : a.stopped ≡ Ok None → IsTrue (is_closed new.rules.statements)
  pub begins : IsPrefix old.frames.statements new.frames.statements
  pub marked : new.rules.marked ≡ old.rules.marked
  pub before : a.before ≡ length old.frames.statements
  pub known : (L : Database) → length L ≡ length old.frames.statements → AreKnown (L ++ T) (length L) a

-- one thread's count of steps does not fall, and rises by at most one for each of the statements T
abbrev pub IsCountedOnce : Steps → Steps → Database → Type 0
IsCountedOnce old new T = (old.count ≤ new.count) × (new.count ≤ old.count + length T)

-- adding the statements T does not lower the count of steps, and raises it by at most two for each
abbrev pub IsCounted : StepCounts → StepCounts → Database → Type 0
IsCounted old new T = (count_of old ≤ count_of new) × (count_of new ≤ count_of old + 2 * length T)

-- the statements T may be added to the tables, whose rules and frames have the same statements
pub record MayBeAdded (T : Database) (tables : Tables) (m : Metered) : Type 0 where
  pub same : tables.frames.statements ≡ tables.rules.statements
  pub shaped : AreShaped T
  pub within : is_past m ≡ false

-- a function with this contract adds statements to tables
abbrev pub Adds : (Bor Database → MutBor Tables → MutBor StepCounts → MutBor Checkers → MutBor Metered → Type 0)
    → (Bor Database → MutBor Tables → MutBor StepCounts → MutBor Checkers → MutBor Metered → AddOutcome → MutBor Tables → MutBor StepCounts → MutBor Checkers → MutBor Metered → Type 0)
    → Type 0
Adds pre post =
    ((T : Bor Database) (tables : MutBor Tables) (steps : MutBor StepCounts) (checkers : MutBor Checkers) (meter : MutBor Metered)
    → MayBeAdded T.now tables.now meter.now → pre T tables steps checkers meter)
    × ((T : Bor Database) (tables : MutBor Tables) (steps : MutBor StepCounts) (checkers : MutBor Checkers) (meter : MutBor Metered)
    (a : AddOutcome) (tables' : MutBor Tables) (steps' : MutBor StepCounts) (checkers' : MutBor Checkers) (meter' : MutBor Metered)
    → post T tables steps checkers meter a tables' steps' checkers' meter'
    → IsAdded tables.now tables'.now meter.now meter'.now T.now a × IsCounted steps.now steps'.now T.now)

-- the outcome of adding those of the statements S that follow the first ones, which the tables had:
-- the tables then have all of S, or a statement breaks a rule or is too costly
pub record IsAddedAfter (S : Database) (start : ℕ) (tables : Tables) (m m' : Metered) (a : AddOutcome) : Type 0 where
  pub stopped : IfOk a.stopped (IsStop (first_broken 1 (take start S) (drop start S)) (length (drop start S)) (added_work (bares (take start S)) (drop start S)) m m')
  pub rules_are : a.stopped ≡ Ok None → tables.rules.statements ≡ bares S
  pub frames_are : a.stopped ≡ Ok None → tables.frames.statements ≡ bares S
  pub closed : a.stopped ≡ Ok None → IsTrue (is_closed tables.rules.statements)
  pub begins : IsPrefix (bares (take start S)) tables.frames.statements
  pub marked : tables.rules.marked ≡ bares (take start S)
  pub before : a.before ≡ start
  pub known : AreKnown S start a

-- ---- the proofs

-- the judging of the proofs begins after statement `from`: after those that are known, which are
-- counted, or after those before the new ones
abbrev pub HasBegun : AddOutcome → Metered → Metered → ℕ → Type 0
HasBegun a m m' from =
    ((from ≡ a.before) × (m' ≡ m)) ⊎ ((from ≡ a.proved_to) × (m' ≡ with_work m a.proofs_work) × (is_past m' ≡ false))

-- the cause for the `$p` of number n, which is not proved
abbrev pub proof_cause : ℕ → Stmt → Cause
proof_cause n s = if is_unfinished (proof_of s) then Unfinished n else Proof n

-- the outcome of the proofs as a cause, where so many statements stand before the new ones
abbrev pub IsProofCause : Database → ℕ → Outcome → Option Cause → Type 0
IsProofCause S before AllRight found = found ≡ None
IsProofCause S before (pool.TooCostly at) found = found ≡ Some (TooCostly (at - before))
IsProofCause S before (Wrong at) found = (s : Stmt) × (stmt_at S at ≡ Some s) × (found ≡ Some (proof_cause (at - before) s))

-- why the statements that were added are refused: found before the proofs, or by them
abbrev pub IsFoundBy : Database → AddOutcome → Metered → Metered → Option Cause → Type 0
IsFoundBy S a m m' found =
    ((cause : Cause) × (a.stopped ≡ Ok (Some cause)) × (found ≡ Some cause))
    ⊎ ((a.stopped ≡ Ok None) × ((outcome : Outcome) × IsProofStop S a.before m m' outcome × IsProofCause S a.before outcome found))
