use Rattle.names.proofs.Words.{ap, Slot}
use Rattle.names.proofs.TableLemmas.{unused}
use Rattle.names.proofs.table.free_slots.Goals as goal

pub returns : goal.returns
returns c = unused _ c.new-slots.result.items _ _ _ c.new-slots.ensures.items c.in_ok-resize.ensures.items (ap (λ (s : Slot). s.code) c.make_slot-free.ensures)
