-- Statements that were added while the proofs of the first ones were judged.
use Rattle.library.proofs.Words.{ℕ, ◌≤◌, length, arith, Database, IsAdded, Tables}
use Rattle.verify.specs.Metered.{Metered}
use Rattle.library.specs.Added.{IsProvedAhead}
use Rattle.library.specs.declared.adding.AddOutcome.{AddOutcome}
use Rattle.library.proofs.UnprovedLemmas.{known-alone}

-- a `$p` that is proved among the first statements of a library is known to be proved among all
pub added-ahead : {old new : Tables} {m m' : Metered} (S : Database) (known work : ℕ) (a : AddOutcome) → length old.frames.statements ≤ 0
    → IsProvedAhead S known work → IsAdded old new m m' S a → IsAdded old new m m' S (record a { proved_to = known; proofs_work = work })
added-ahead S known work a alone ahead e = record {
  stopped = e.stopped;
  rules_are = e.rules_are;
  frames_are = e.frames_are;
  closed = e.closed;
  begins = e.begins;
  marked = e.marked;
  before = e.before;
  known = λ L same. known-alone S (record a { proved_to = known; proofs_work = work }) ahead L (omega (arith, same, alone));
}
