use Rattle.cluster.proofs.Words.{◌≡◌, Some, sym, subst, trimmed, KeptPart}
use Rattle.synod.proofs.CopyLemmas.{stays_whole}
use Rattle.cluster.proofs.memory_keep.MemoryKeepKeep.store.Goals as goal

pub invariant_of-self-2 : goal.invariant_of-self-2
invariant_of-self-2 g c = record {
  is_trimmed = stays_whole c.ready_change.new.stored.kept c.apply_change.new.self.kept (Some c.in-Ok.change) c.apply_change.ensures
      (subst (λ (k : KeptPart g.row.V.Denot). trimmed k.accepted ≡ k.accepted) (sym c.ready_change.ensures.kept) c.args.self.now.is_trimmed);
}
