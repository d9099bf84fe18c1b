use Rattle.world.proofs.Words.{◌≡◌, entries_of}
use Rattle.world.proofs.carried.entries_of.Given as goal

abbrev pub invariant-loop-value : goal.invariant-loop-value
invariant-loop-value l = l.entries.items ≡ entries_of l.yielded
