-- Judging statements that follow others: the least rule broken, or else the least `$p` that is not
-- proved; and the work that is counted meanwhile.
-- Source: this project's profile; Metamath, 4.2 and appendix B.
-- The code adds the statements to the state of the rules and to frames, and rolls back if it finds
-- a fault.
use Rattle.std.specs.Prelude.{◌≡◌, ℕ, ◌+◌, ◌-◌, ◌<◌, ◌≤◌, Bool, false, if◌then◌else◌, List, ◌++◌, length, option_map, Option, Some, None, Result, Ok, Err, IfOk, IfErr, Vec, true}
use Rattle.std.specs.declared.alloc.Global.{Global}
use Rattle.verify.specs.Metered.{Metered, is_past, metered, with_work}
use Rattle.library.specs.Words.{Stmt, Database, AreShaped, Reads, IsReadFault, bares, IsProvable}
use Rattle.mm_read.specs.declared.fault.ReadFault.{ReadFault}
use Rattle.mm_read.specs.declared.stmt.Stmt.TheVariants.{Close, Open}
use Rattle.library.specs.declared.adding.Tables.{Tables}
use Rattle.library.specs.declared.entry_text.NewText.{NewText}
use Rattle.library.specs.declared.verdict.Cause.{Cause}
use Rattle.library.specs.declared.verdict.Cause.TheVariants.{LeavesHypotheses, TooCostly}
use Rattle.library.specs.declared.submission.Submission.{Submission}
use Rattle.library.specs.Good.{Good, IsProved}
use Rattle.library.specs.Work.{Stage, counts_to, judged_counts, past_limit}
use Rattle.library.specs.Causes.{IsAllowed, IsCause, IsReachedIn, IsRefusal, first_leaving}

-- these statements are a prefix of the list
abbrev pub IsPrefix : Database → Database → Type 0
IsPrefix prefix whole = (rest : Database) × (whole ≡ prefix ++ rest)

-- if a `$p` is at that position, it is proved
abbrev pub IsProvedIfProvable : Database → ℕ → Type 0
IsProvedIfProvable S at = (s : Stmt) → IsProvable S at s → IsProved S at

-- after the first `start` statements, up to the position `end`, each `$p` is proved
pub record AreProvedBetween (S : Database) (start end : ℕ) : Type 0 where
  pub low : start ≤ end
  pub within : end ≤ length S
  pub proved : (at : ℕ) → start < at → at ≤ end → IsProvedIfProvable S at

-- the meter is within its limit with the work that comes before number n, and past it with that of
-- n, where `work k` is the work up to number k
pub record IsPastAt (m : Metered) (work : ℕ → ℕ) (n : ℕ) : Type 0 where
  pub some : 1 ≤ n
  pub within : is_past (with_work m (work (n - 1))) ≡ false
  pub past : is_past (with_work m (work n)) ≡ true

-- what is counted of a text up to a stage is past the limit with statement n
pub record IsPastIn (limit : Option ℕ) (L : Database) (text : List ℕ) (T : Database) (n : ℕ) : Type 0 where
  pub stage : Stage
  pub reached : IsReachedIn limit L T stage
  pub past : past_limit limit (counts_to L text T stage) ≡ Some n

-- the statements T of a text are good after L, or this is why they are refused
abbrev pub IsJudged : Option ℕ → Database → List ℕ → Database → Option Cause → Type 0
IsJudged limit L text T None =
    (first_leaving limit T ≡ None) × Good (L ++ T) × (past_limit limit (judged_counts L text T None) ≡ None)
IsJudged limit L text T (Some (TooCostly n)) = IsPastIn limit L text T n
IsJudged limit L text T (Some cause) =
    IsRefusal limit L T cause × (past_limit limit (judged_counts L text T (Some cause)) ≡ None)

-- the tables have these statements, which are good, and which the rules have marked, to roll back
-- to
pub record IsChecked (S : Database) (tables : Tables) : Type 0 where
  pub shaped : AreShaped S
  pub good : Good S
  pub rules_are : tables.rules.statements ≡ bares S
  pub marked_is : tables.rules.marked ≡ bares S
  pub frames_are : tables.frames.statements ≡ bares S

-- the statements after the statements T were judged after L: all of them, if they are good and are
-- to be kept
abbrev pub judged_statements : Bool → Database → Database → Option Cause → Database
judged_statements kept L T (Some cause) = L
judged_statements kept L T None = if kept then L ++ T else L

-- why a text is refused before its proofs, given why its statements were not added and the number
-- of the first hypothesis that they leave active
abbrev pub or_leaving : {E : Type 0} → Result (Option Cause) E → Option ℕ → Result (Option Cause) E
or_leaving (Ok None) leaves = Ok (option_map LeavesHypotheses leaves)
or_leaving stopped leaves = stopped

-- the reader returns the statements of a text, or a fault that the text has
abbrev pub ReadsTexts : (List ℕ → Result (Vec Stmt Global) ReadFault → Type 0) → Type 0
ReadsTexts returns =
    (text : List ℕ) (r : Result (Vec Stmt Global) ReadFault) → returns text r
    → IfOk r (λ statements. Reads text statements.items) × IfErr r (IsReadFault text)

-- how many blocks that are open before the statement s are closed by it and later ones, if these
-- close so many that are open after it
abbrev pub closed_from : Stmt → ℕ → ℕ
closed_from Open closed = closed - 1
closed_from Close closed = closed + 1
closed_from s closed = closed

-- the statements of a text that is to be judged, whose bytes are counted
pub record IsToBeJudged (limit : Option ℕ) (charter : Option (List ℕ)) (submission : Submission) (text : NewText) : Type 0 where
  pub allowed : IsAllowed charter submission text.statements.items
  pub leaves : text.leaves ≡ first_leaving limit text.statements.items
  pub counted : text.meter ≡ metered (length submission.text) limit
  pub within : is_past text.meter ≡ false

-- a text that is to be judged, or a cause of refusal that does not depend on earlier statements
abbrev pub IsReading : Option ℕ → Option (List ℕ) → Submission → Result NewText Cause → Type 0
IsReading limit charter submission (Ok text) = IsToBeJudged limit charter submission text
IsReading limit charter submission (Err cause) = (L : Database) → IsCause limit L charter submission cause
