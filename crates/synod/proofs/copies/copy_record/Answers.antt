use Rattle.synod.proofs.Words.{List, Option, ap, ◌∙◌, arith, entry_at, AcceptedEntry}
use Rattle.synod.specs.Copies.{with_copied_slot}
use Rattle.synod.proofs.CopyLemmas.{with_next}
use Rattle.synod.proofs.copies.copy_record.Goals as goal

pub loop-slot-preserved : goal.loop-slot-preserved
loop-slot-preserved g c =
    c.in_ok-copy_slot.ensures
    ∙ ap (λ (xs : List (Option (AcceptedEntry g.row.V.Denot))). with_copied_slot xs c.loop-slot.slot (entry_at c.args.source.now.kept.accepted c.loop-slot.slot)) c.loop-slot.invariant
    ∙ with_next c.args.source.now.kept.accepted c.loop-slot.slot (omega (arith, c.top-slot-end.ensures.top, c.loop-slot-test.true))
