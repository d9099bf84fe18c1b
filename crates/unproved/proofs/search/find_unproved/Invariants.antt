use Rattle.unproved.proofs.Words.{◌-◌, ◌≤◌, length, AreUnproved}
use Rattle.unproved.proofs.search.find_unproved.Given as goal

abbrev pub invariant-loop-start : goal.invariant-loop-start
invariant-loop-start g l = record {
  within : l.start ≤ length l.search.statements.now;
  positions : AreUnproved l.search.statements.now 0 l.start l.positions.items;
}

abbrev pub decreases-loop-start : goal.decreases-loop-start
decreases-loop-start g l = length l.search.statements.now - l.start
