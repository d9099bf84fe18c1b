use Rattle.std.proofs.Common.{◌≡◌, ◌-◌, ◌++◌, None, length, replicate, vec_capacity, vec_len}
use Rattle.slots.proofs.page.pad_to.Given as goal

abbrev pub invariant-loop-slots : goal.invariant-loop-slots
invariant-loop-slots g l = record {
  items : l.slots.items ++ replicate (l.count - length l.slots.items) None ≡ l.initial.slots.items ++ replicate (l.count - length l.initial.slots.items) None;
  capacity : vec_capacity l.slots ≡ vec_capacity l.initial.slots;
}

abbrev pub decreases-loop-slots : goal.decreases-loop-slots
decreases-loop-slots g l = l.count - vec_len l.slots
