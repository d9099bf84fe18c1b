use Rattle.std.proofs.Common.{◌-◌, ◌≤◌, length}
use Rattle.places.specs.Misread.{IsReadUpTo}
use Rattle.places.proofs.misread.read_pieces.Given as goal

abbrev pub invariant-loop-at : goal.invariant-loop-at
invariant-loop-at l = record {
  within : l.at ≤ length l.spans;
  read : IsReadUpTo l.text l.spans l.at l.reading.statements.items l.reading.spans.items l.reading.misread.items;
}

abbrev pub decreases-loop-at : goal.decreases-loop-at
decreases-loop-at l = length l.spans - l.at
