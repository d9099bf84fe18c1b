-- Laws of the library of a log.
-- Source: this project's profile.
-- The code applies entries as `Applies` defines. The first two laws state that the definitions
-- leave no choice, the next two that libraries grow and are good, the others what the limit and
-- charters add, and how works add up.
use Rattle.std.specs.Prelude.{◌≡◌, ◌↔◌, ℕ, ◌+◌, Bool, true, false, not, IsTrue, List, ◌++◌, map, option_map, Option, Some, None}
use Rattle.std.specs.List.{list_all}
use Rattle.mm_read.specs.Statements.{Database}
use Rattle.library.specs.declared.submission.Submission.{Submission}
use Rattle.library.specs.declared.entry.Entry.{Entry}
use Rattle.library.specs.declared.entry.Entry.TheVariants.{Text}
use Rattle.library.specs.declared.verdict.Cause.{Cause}
use Rattle.library.specs.declared.verdict.Cause.TheVariants.{LeavesHypotheses, TooCostly}
use Rattle.library.specs.declared.verdict.Verdict.{Verdict}
use Rattle.library.specs.declared.verdict.Verdict.TheVariants.{Refused}
use Rattle.library.specs.Good.{Good}
use Rattle.library.specs.Work.{judged_counts, past_limit, text_work}
use Rattle.library.specs.Causes.{IsCause, IsOutcome}
use Rattle.library.specs.LibraryOf.{EntryVerdict, ReplicaState, Applies, IsLibraryOf}
use Rattle.library.specs.UnlimitedLibraryOf.{UnlimitedReplicaState, IsUnlimitedLibraryOf}
use Rattle.library.specs.PlainLibraryOf.{PlainReplicaState, IsPlainLibraryOf}

-- at a given replica, an entry has one verdict and leads to one replica
abbrev pub OneVerdict : Type 0
OneVerdict = (old new other : ReplicaState) (entry : Option Entry) (v w : Verdict)
    → Applies old entry v new → Applies old entry w other → (v ≡ w) × (new ≡ other)

-- a log has one library under a limit
abbrev pub OneLibrary : Type 0
OneLibrary = (limit : Option ℕ) (log : List (Option Entry)) (replica other : ReplicaState)
    → IsLibraryOf limit log replica → IsLibraryOf limit log other → replica ≡ other

-- the statements of a log's library are a prefix of those of the library of a log that continues it
abbrev pub LibrariesGrow : Type 0
LibrariesGrow = (limit : Option ℕ) (log later : List (Option Entry)) (replica longer : ReplicaState)
    → IsLibraryOf limit log replica → IsLibraryOf limit (log ++ later) longer → (more : Database) × (longer.statements ≡ replica.statements ++ more)

-- the library of a log is good
abbrev pub LibrariesAreGood : Type 0
LibrariesAreGood = (limit : Option ℕ) (log : List (Option Entry)) (replica : ReplicaState)
    → IsLibraryOf limit log replica → Good replica.statements

-- a replica without its limit
abbrev pub without_limit : ReplicaState → UnlimitedReplicaState
without_limit replica = record { statements = replica.statements; decided = replica.decided; charter = replica.charter }

-- without a limit, a log has the library of the definition without limits
abbrev pub NoLimit : Type 0
NoLimit = (log : List (Option Entry)) (replica : ReplicaState)
    → IsLibraryOf None log replica ↔ (IsUnlimitedLibraryOf log (without_limit replica) × (replica.limit ≡ None))

-- a replica without its charter and limit
abbrev pub without_charter : ReplicaState → PlainReplicaState
without_charter replica = record { statements = replica.statements; decided = replica.decided }

-- without a limit, a log without charters has the statements and the verdicts of the plain library,
-- and no charter
abbrev pub PlainWithoutCharters : Type 0
PlainWithoutCharters = (log : List (Option Submission)) (replica : ReplicaState)
    → IsLibraryOf None (map (option_map Text) log) replica
    ↔ (IsPlainLibraryOf log (without_charter replica) × ((replica.charter ≡ None) × (replica.limit ≡ None)))

-- whether the verdict is one of the two that only a limit gives
abbrev pub is_by_limit : Verdict → Bool
is_by_limit (Refused (TooCostly n)) = true
is_by_limit (Refused (LeavesHypotheses n)) = true
is_by_limit verdict = false

-- where a limit gives no verdict, the library of a log has the statements, the verdicts and the
-- charter that it has without the limit
abbrev pub LimitKeepsStatements : Type 0
LimitKeepsStatements = (limit : ℕ) (log : List (Option Entry)) (replica unlimited : ReplicaState)
    → IsLibraryOf (Some limit) log replica → IsLibraryOf None log unlimited
    → IsTrue (list_all (λ (d : EntryVerdict). not (is_by_limit d.verdict)) replica.decided) → unlimited ≡ record replica { limit = None }

-- a submission whose outcome, the work aside, is known is too costly exactly if what is counted
-- until it is known is past the limit, and with that statement
abbrev pub TooCostlyIfPast : Type 0
TooCostlyIfPast = (limit : Option ℕ) (L T : Database) (charter : Option (List ℕ)) (submission : Submission) (outcome : Option Cause) (n : ℕ)
    → IsOutcome limit L charter submission T outcome
    → IsCause limit L charter submission (TooCostly n) ↔ (past_limit limit (judged_counts L submission.text T outcome) ≡ Some n)

-- the works of texts that are added one after another sum to that of the text that they are
-- together
abbrev pub WorksAddUp : Type 0
WorksAddUp = (L T U : Database) (text more : List ℕ)
    → text_work L (text ++ more) (T ++ U) ≡ text_work L text T + text_work (L ++ T) more U
