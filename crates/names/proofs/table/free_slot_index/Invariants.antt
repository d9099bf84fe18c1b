use Rattle.names.proofs.Words.{ℕ, ◌<◌, IsTaken}
use Rattle.names.proofs.table.free_slot_index.Given as goal

abbrev pub invariant-loop-step : goal.invariant-loop-step
invariant-loop-step l = (i : ℕ) → i < l.step → IsTaken l.slots l.key i
