use Rattle.unproved.proofs.Words.{◌-◌, ◌≤◌, IsFirstUnprovedIn, AreUnproved}
use Rattle.unproved.proofs.search.push_unproved_of_range.Given as goal

abbrev pub invariant-loop-found : goal.invariant-loop-found
invariant-loop-found g l = record {
  within : l.start ≤ l.end;
  positions : AreUnproved l.search.statements.now 0 l.start l.positions.items;
  least : IsFirstUnprovedIn l.search.statements.now l.start l.end l.found;
}

abbrev pub decreases-loop-found : goal.decreases-loop-found
decreases-loop-found g l = l.end - l.start
