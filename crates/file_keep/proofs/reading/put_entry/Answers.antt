use Rattle.file_keep.proofs.Words.{Some, subst, sym, trimmed, ◌≡◌, KeptPart}
use Rattle.synod.proofs.CopyLemmas.{stays_whole}
use Rattle.file_keep.proofs.reading.put_entry.Goals as goal
use Rattle.synod.specs.declared.change.Change.TheVariants.{Entry}

pub returns : goal.returns
returns g c =
    record {
      whole = stays_whole c.reserve.new.self.kept c.apply_change.new.self.kept (Some (Entry c.args.slot c.args.entry)) c.apply_change.ensures
          (subst (λ (k : KeptPart g.row.V.Denot). trimmed k.accepted ≡ k.accepted) (sym c.reserve.ensures.kept) c.requires.whole);
    }
