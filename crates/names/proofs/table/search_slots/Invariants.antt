use Rattle.names.proofs.Words.{ℕ, ◌<◌, IsPassed}
use Rattle.names.proofs.table.search_slots.Given as goal

abbrev pub invariant-loop-step : goal.invariant-loop-step
invariant-loop-step l = (i : ℕ) → i < l.step → IsPassed l.slots l.name_list l.name l.key i
