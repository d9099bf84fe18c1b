use Rattle.frame.proofs.Words.{◌≡◌, ◌-◌, ◌<◌, ◌∙◌, ap, sym, subst, arith, refl, suc, length, length-take-le, take, take-get, take-take, take_all, take-length, slice_get, Some, Entry, entry_from_ref, statements_of, AreBlockEnds}
use Rattle.frame.proofs.EndLemmas.{block-fits, ends-taken, length-with, stored-blocks}
use Rattle.frame.proofs.declare.remove_entries.Goals as goal
use Rattle.frame.proofs.declare.remove_entries.Goals.{After-entry-entry}

abbrev last : After-entry-entry → Entry
last c = entry_from_ref c.entry-entry.result c.entry-entry.ensures.0

-- the last entry that is left stood at the same place at the beginning
here : (c : After-entry-entry) → slice_get c.args.storage.now.entries (c.len-last.result - 1) ≡ Some (last c)
here c =
    let i = c.loop-storage.invariant in
    (take-get (length c.loop-storage.storage.entries) (c.len-last.result - 1) c.args.storage.now.entries (last c) (ap (λ es. slice_get es (c.len-last.result - 1)) (sym i.front) ∙ c.entry-entry.ensures.1)).1

pub record_end-requires : goal.record_end-requires
record_end-requires c =
    let k = c.args.storage.now in let w = (goal.at.record_end-requires c).After-entry-entry in
    block-fits k.entries (statements_of k) (c.len-last.result - 1) (length c.loop-storage.storage.ends.items) (last w) (stored-blocks k c.requires.stored) (here w) (sym (c.loop-storage.invariant.count ∙ c.requires.stored.ended.count))

pub loop-storage-preserved : goal.loop-storage-preserved
loop-storage-preserved c =
    let w = (goal.at.loop-storage-preserved c).After-entry-entry in
    let k = c.args.storage.now in
    let i = c.loop-storage.invariant in
    let n = c.len-last.result - 1 in
    let old = c.loop-storage.storage in
    let some : n < length old.entries = omega (arith, c.len-last.ensures.len, c.loop-storage-test.true, c.len.ensures.len) in
    let more : length old.entries ≡ suc n = omega (arith, c.len-last.ensures.len, some) in
    let size : length c.truncate.new.self ≡ n = ap length c.truncate.ensures ∙ length-take-le n old.entries (omega (arith, some)) in
    record {
      enough = omega (arith, size, c.len-last.ensures.len, c.loop-storage-test.true, c.len.ensures.len);
      within = omega (arith, size, some, i.within);
      front = c.truncate.ensures ∙ (ap (take n) i.front ∙ (take-take n (length old.entries) k.entries (omega (arith, some)) ∙ ap (λ m. take m k.entries) (sym size)));
      ended = subst (λ m. AreBlockEnds c.record_end.new.ends.items (take m (statements_of k))) (sym size)
          (ends-taken k.entries (statements_of k) n (last w) old.ends.items c.record_end.new.ends.items (stored-blocks k c.requires.stored) (here w) (sym (i.count ∙ c.requires.stored.ended.count)) (subst (λ m. AreBlockEnds old.ends.items (take m (statements_of k))) more i.ended) c.record_end.ensures);
      count = ap length c.record_end.ensures ∙ (length-with (last w).kind (last w).last_active.block 0 old.ends.items ∙ i.count);
      names = i.names;
      floats = i.floats;
      disjoints = i.disjoints;
      variables = i.variables;
      last_active = i.last_active;
    }

pub loop-storage-init : goal.loop-storage-init
loop-storage-init c =
    let k = c.args.storage.now in
    record {
      enough = c.requires.within;
      within = omega arith;
      front = sym (take-length k.entries);
      ended = subst (AreBlockEnds k.ends.items) (sym (take_all (length k.entries) (statements_of k) (omega (arith, (stored-blocks k c.requires.stored).count)))) c.requires.stored.ended.tell;
      count = refl;
      names = (refl, refl);
      floats = refl;
      disjoints = refl;
      variables = refl;
      last_active = refl;
    }
