use Rattle.slots.proofs.Words.{◌≡◌, ◌≤◌, ◌-◌, ◌+◌, drop, length, front_of}
use Rattle.slots.proofs.slots.first_empty_from.Given as goal

abbrev pub invariant-loop-slot : goal.invariant-loop-slot
invariant-loop-slot g l = record {
  within : l.slot ≤ length l.pages;
  front : l.slot + front_of (drop l.slot l.pages) ≡ l.fn.from + front_of (drop l.fn.from l.pages);
}

abbrev pub decreases-loop-slot : goal.decreases-loop-slot
decreases-loop-slot g l = l.end - l.slot
