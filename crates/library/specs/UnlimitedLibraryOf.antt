-- The library of a log, by a definition without a limit on the work of an entry.
-- Source: this project's profile without the limit.
-- No code uses it; a law says that the library of a log without a limit is this one.
use Rattle.std.specs.Prelude.{◌≡◌, ℕ, ◌<◌, true, false, List, [], ◌∷◌, ◌++◌, length, Option, Some, None}
use Rattle.library.specs.Words.{Database}
use Rattle.library.specs.declared.submission.TheConstants.{MAX_BYTES}
use Rattle.library.specs.declared.submission.Submission.{Submission}
use Rattle.library.specs.declared.entry.Entry.{Entry}
use Rattle.library.specs.declared.entry.Entry.TheVariants.{Text, Charter}
use Rattle.library.specs.declared.verdict.Verdict.{Verdict}
use Rattle.library.specs.declared.verdict.Verdict.TheVariants.{Added, Nothing, Repeat, Refused}
use Rattle.library.specs.declared.verdict.Cause.{Cause}
use Rattle.library.specs.declared.verdict.Cause.TheVariants.{TooLong, Text as BadText, Shape, NotChartered}
use Rattle.library.specs.Charters.{first_forbidden, may_declare}
use Rattle.library.specs.Good.{Good}
use Rattle.library.specs.Causes.{HasLexFault, HasNoShape, IsAllowed, IsFault, IsReadable}
use Rattle.library.specs.LibraryOf.{EntryVerdict, author_of, decided_with, serial_of, status}

-- the statements added, the verdicts decided, and the charter in force
pub record UnlimitedReplicaState : Type 0 where
  pub statements : Database
  pub decided : List EntryVerdict
  pub charter : Option (List ℕ)

abbrev pub unlimited_empty : UnlimitedReplicaState
unlimited_empty = record { statements = []; decided = []; charter = None }

-- why the submission is not added after L, under the charter in force
abbrev pub IsUnlimitedCause : Database → Option (List ℕ) → Submission → Cause → Type 0
IsUnlimitedCause L charter submission TooLong = MAX_BYTES < length submission.text
IsUnlimitedCause L charter submission BadText = HasLexFault submission.text
IsUnlimitedCause L charter submission Shape = HasNoShape submission.text
IsUnlimitedCause L charter submission (NotChartered n) =
    (T : Database) × IsReadable submission.text T × (first_forbidden charter submission.author T ≡ Some n)
IsUnlimitedCause L charter submission cause = (T : Database) × IsAllowed charter submission T × IsFault L T cause

-- an entry that was not decided before turns the replica old into new, with this verdict
abbrev pub UnlimitedDecides : UnlimitedReplicaState → Entry → Verdict → UnlimitedReplicaState → Type 0
UnlimitedDecides old (Text submission) Added new =
    (T : Database) × IsAllowed old.charter submission T × Good (old.statements ++ T)
    × (new ≡ record old { statements = old.statements ++ T; decided = decided_with old.decided (Text submission) Added })
UnlimitedDecides old (Text submission) (Refused cause) new =
    IsUnlimitedCause old.statements old.charter submission cause
    × (new ≡ record old { decided = decided_with old.decided (Text submission) (Refused cause) })
UnlimitedDecides old (Charter author serial names) Added new =
    (may_declare old.charter author ≡ true)
    × (new ≡ record old { decided = decided_with old.decided (Charter author serial names) Added; charter = Some names })
UnlimitedDecides old (Charter author serial names) (Refused cause) new =
    (may_declare old.charter author ≡ false) × (cause ≡ NotChartered 0)
    × (new ≡ record old { decided = decided_with old.decided (Charter author serial names) (Refused cause) })
UnlimitedDecides old entry verdict new = ⊥

-- an entry turns the replica old into new, given the verdict decided before under its author and
-- serial number, if any
abbrev pub UnlimitedAppliesAt : Option Verdict → UnlimitedReplicaState → Entry → Verdict → UnlimitedReplicaState → Type 0
UnlimitedAppliesAt (Some first) old entry verdict new = (verdict ≡ Repeat) × (new ≡ old)
UnlimitedAppliesAt None old entry verdict new = UnlimitedDecides old entry verdict new

-- one entry of the log, or a no-operation (`None`), turns the replica old into new, with this
-- verdict
abbrev pub UnlimitedApplies : UnlimitedReplicaState → Option Entry → Verdict → UnlimitedReplicaState → Type 0
UnlimitedApplies old None verdict new = (verdict ≡ Nothing) × (new ≡ old)
UnlimitedApplies old (Some entry) verdict new = UnlimitedAppliesAt (status old.decided (author_of entry) (serial_of entry)) old entry verdict new

-- the entries of a log, one after another
abbrev pub UnlimitedRuns : UnlimitedReplicaState → List (Option Entry) → UnlimitedReplicaState → Type 0
UnlimitedRuns old [] new = new ≡ old
UnlimitedRuns old (entry ∷ log) new =
    (mid : UnlimitedReplicaState) × (verdict : Verdict) × UnlimitedApplies old entry verdict mid × UnlimitedRuns mid log new

-- the library of a log
abbrev pub IsUnlimitedLibraryOf : List (Option Entry) → UnlimitedReplicaState → Type 0
IsUnlimitedLibraryOf log replica = UnlimitedRuns unlimited_empty log replica
