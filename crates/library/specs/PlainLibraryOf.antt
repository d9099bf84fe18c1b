-- The library of a log of texts, by a definition without charters and limits.
-- Source: this project's profile without charters and limits.
-- No code uses it; a law says that the library of a log without charters, without a limit, is this one.
use Rattle.std.specs.Prelude.{◌≡◌, ◌<◌, List, [], ◌∷◌, ◌++◌, length, Option, Some, None}
use Rattle.library.specs.Words.{Database}
use Rattle.library.specs.declared.entry.Entry.TheVariants.{Text}
use Rattle.library.specs.declared.submission.TheConstants.{MAX_BYTES}
use Rattle.library.specs.declared.submission.Submission.{Submission}
use Rattle.library.specs.declared.verdict.Verdict.{Verdict}
use Rattle.library.specs.declared.verdict.Verdict.TheVariants.{Added, Nothing, Repeat, Refused}
use Rattle.library.specs.declared.verdict.Cause.{Cause}
use Rattle.library.specs.declared.verdict.Cause.TheVariants.{TooLong, Text as BadText, Shape}
use Rattle.library.specs.Good.{Good}
use Rattle.library.specs.Causes.{HasLexFault, HasNoShape, IsFault, IsReadable}
use Rattle.library.specs.LibraryOf.{EntryVerdict, decided_with, status}

-- the statements added and the verdicts decided
pub record PlainReplicaState : Type 0 where
  pub statements : Database
  pub decided : List EntryVerdict

abbrev pub plain_empty : PlainReplicaState
plain_empty = record { statements = []; decided = [] }

-- why the submission is not added after L
abbrev pub IsPlainCause : Database → Submission → Cause → Type 0
IsPlainCause L submission TooLong = MAX_BYTES < length submission.text
IsPlainCause L submission BadText = HasLexFault submission.text
IsPlainCause L submission Shape = HasNoShape submission.text
IsPlainCause L submission cause = (T : Database) × IsReadable submission.text T × IsFault L T cause

-- a text that was not decided before turns the replica old into new, with this verdict
abbrev pub PlainDecides : PlainReplicaState → Submission → Verdict → PlainReplicaState → Type 0
PlainDecides old submission Added new =
    (T : Database) × IsReadable submission.text T × Good (old.statements ++ T)
    × (new ≡ record { statements = old.statements ++ T; decided = decided_with old.decided (Text submission) Added })
PlainDecides old submission (Refused cause) new =
    IsPlainCause old.statements submission cause
    × (new ≡ record { statements = old.statements; decided = decided_with old.decided (Text submission) (Refused cause) })
PlainDecides old submission verdict new = ⊥

-- a text turns the replica old into new, given the verdict decided before under its author and
-- serial number, if any
abbrev pub PlainAppliesAt : Option Verdict → PlainReplicaState → Submission → Verdict → PlainReplicaState → Type 0
PlainAppliesAt (Some first) old submission verdict new = (verdict ≡ Repeat) × (new ≡ old)
PlainAppliesAt None old submission verdict new = PlainDecides old submission verdict new

-- one text, or a no-operation, turns the replica old into new, with this verdict
abbrev pub PlainApplies : PlainReplicaState → Option Submission → Verdict → PlainReplicaState → Type 0
PlainApplies old None verdict new = (verdict ≡ Nothing) × (new ≡ old)
PlainApplies old (Some submission) verdict new =
    PlainAppliesAt (status old.decided submission.author submission.serial) old submission verdict new

-- the texts of a log, one after another
abbrev pub PlainRuns : PlainReplicaState → List (Option Submission) → PlainReplicaState → Type 0
PlainRuns old [] new = new ≡ old
PlainRuns old (text ∷ log) new = (mid : PlainReplicaState) × (verdict : Verdict) × PlainApplies old text verdict mid × PlainRuns mid log new

-- the library of a log of texts
abbrev pub IsPlainLibraryOf : List (Option Submission) → PlainReplicaState → Type 0
IsPlainLibraryOf log replica = PlainRuns plain_empty log replica
