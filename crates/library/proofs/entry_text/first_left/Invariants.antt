use Rattle.library.proofs.Words.{◌≡◌, ◌+◌, ◌≤◌, drop, length}
use Rattle.library.specs.Causes.{first_left}
use Rattle.library.proofs.LeavingLemmas.{closed_by}
use Rattle.library.proofs.entry_text.first_left.Given as goal

abbrev pub invariant-loop-index : goal.invariant-loop-index
invariant-loop-index l = record {
  found : l.found ≡ first_left (l.index + 1) (drop l.index l.statements);
  closed : l.closed ≡ closed_by (drop l.index l.statements);
  few : l.closed + l.index ≤ length l.statements;
}

abbrev pub decreases-loop-index : goal.decreases-loop-index
decreases-loop-index l = l.index
