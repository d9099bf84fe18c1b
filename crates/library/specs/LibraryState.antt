-- A library as contracts see it: its replica, and the count of its steps.
-- Source: this project's profile.
-- The code has the statements three times: as they were read, as the state of the rules, and as
-- frames.
use Rattle.std.specs.Prelude.{◌≡◌, ℕ, ◌+◌, ◌*◌, ◌≤◌, List, length, Option, Some, None, Result, Ok, Err, ⊤}
use Rattle.library.specs.Words.{Database, Reads}
use Rattle.library.specs.declared.submission.Submission.{Submission}
use Rattle.library.specs.declared.entry.Entry.{Entry}
use Rattle.library.specs.declared.entry.Entry.TheVariants.{Text, Charter}
use Rattle.library.specs.declared.verdict.Cause.{Cause}
use Rattle.library.specs.declared.verdict.Verdict.{Verdict}
use Rattle.library.specs.declared.verdict.Verdict.TheVariants.{Added, Refused}
use Rattle.library.specs.Causes.{IsCause, IsJudgedTo}
use Rattle.library.specs.Work.{text_work}
use Rattle.library.specs.declared.decided.EntryState.{EntryState}
use Rattle.library.specs.declared.decided.EntryState.TheVariants.{Undecided, Decided}
use Rattle.library.specs.LibraryOf.{EntryVerdict, ReplicaState, status, status_of}
use Rattle.std.specs.BTreeMap.{BTreeMap, get}
use Rattle.std.specs.Ordering.{nat_cmp, ordering_then}
use Rattle.std.specs.declared.cmp.Ordering.{Ordering}

-- what contracts see of a library: its replica, and the number of statements that were given to the
-- rules and frames
pub record LibraryModel : Type 0 where
  pub replica : ReplicaState
  pub steps : ℕ

-- a decision: added, or refused for this cause
abbrev pub verdict_of : Option Cause → Verdict
verdict_of None = Added
verdict_of (Some cause) = Refused cause

-- the verdict that a state gives an entry, if it is decided
abbrev pub verdict_at : Option EntryState → Option Verdict
verdict_at None = None
verdict_at (Some Undecided) = None
verdict_at (Some (Decided cause)) = Some (verdict_of cause)

-- by author, and then by number
abbrev pub key_cmp : ℕ × ℕ → ℕ × ℕ → Ordering
key_cmp a b = ordering_then (nat_cmp a.0 b.0) (nat_cmp a.1 b.1)

-- the table has the first verdict on each entry
abbrev pub IsTableOf : List EntryVerdict → BTreeMap (ℕ × ℕ) EntryState → Type 0
IsTableOf entries table = (author serial : ℕ) → verdict_at (get key_cmp table (author, serial)) ≡ status entries author serial

-- the work that was counted, or the cause of refusal if there is one
abbrev pub work_or_cause : Option Cause → ℕ → Result ℕ Cause
work_or_cause None n = Ok n
work_or_cause (Some cause) n = Err cause

-- the work of a submission that the replica would add next, or the cause for which it would be
-- refused
abbrev pub IsWorkOf : ReplicaState → Submission → Result ℕ Cause → Type 0
IsWorkOf replica submission (Ok n) =
    (T : Database) × IsJudgedTo replica.limit replica.statements replica.charter submission T None
    × (n ≡ text_work replica.statements submission.text T)
IsWorkOf replica submission (Err cause) = IsCause replica.limit replica.statements replica.charter submission cause

-- a decided entry is added or refused
abbrev pub IsDecision : Verdict → Type 0
IsDecision Added = ⊤
IsDecision (Refused cause) = ⊤
IsDecision verdict = ⊥

-- the judging of a text raises the count of steps by at most three for each statement (in the code
-- by at most two), and not at all if the text does not read (the count is that of the statements
-- that are given to the rules and frames)
pub record HasFewStepsForText (submission : Submission) (before after : ℕ) : Type 0 where
  pub read : (T : Database) → Reads submission.text T → after ≤ before + 3 * length T
  pub unread : ((T : Database) → ¬ Reads submission.text T) → after ≡ before

-- the judging of an entry that was not decided before: a charter leaves the count as it is
abbrev pub HasFewStepsForEntry : Entry → ℕ → ℕ → Type 0
HasFewStepsForEntry (Text submission) before after = HasFewStepsForText submission before after
HasFewStepsForEntry (Charter author serial names) before after = after ≡ before

-- the application of an entry, given the verdict decided before under its author and serial number,
-- if any
abbrev pub HasFewStepsAt : Option Verdict → Entry → ℕ → ℕ → Type 0
HasFewStepsAt (Some first) entry before after = after ≡ before
HasFewStepsAt None entry before after = HasFewStepsForEntry entry before after

-- how far one application may raise the count of steps: a no-operation and a repeat not at all
abbrev pub HasFewSteps : ReplicaState → Option Entry → ℕ → ℕ → Type 0
HasFewSteps old None before after = after ≡ before
HasFewSteps old (Some entry) before after = HasFewStepsAt (status_of old entry) entry before after
