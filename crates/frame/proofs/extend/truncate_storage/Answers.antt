use Rattle.frame.proofs.Words.{◌≡◌, ◌∙◌, ap, sym, subst, arith, length, take, ◌<◌, ◌≤◌, Disj, Var, AreStored, Extends, length-take-le, slice_get_within, names_in, labels_in, statements_of, List, ℕ, Mention, declared_symbols, declared_labels, naming_of, entry_from_ref, AreKeptUntil}
use Rattle.frame.proofs.FloatLemmas.{floats-front}
use Rattle.frame.proofs.TableLemmas.{table-front}
use Rattle.frame.proofs.EndLemmas.{ends-front, stored-blocks}
use Rattle.frame.proofs.CutStorage.{IsCut, kept-cut, cut-statements, names-front, front-naming, numbering-front}
use Rattle.frame.proofs.extend.truncate_storage.Goals as goal
use Rattle.frame.proofs.extend.truncate_storage.Goals.{After-roll_back}

until : (n m : ℕ) (old mid new : List (List Mention)) → m ≡ n → mid ≡ old → AreKeptUntil m mid new → AreKeptUntil n old new
until n m old mid new long same kept = subst (λ ms. AreKeptUntil n ms new) same (subst (λ k. AreKeptUntil k mid new) long kept)

left : (c : After-roll_back) → AreStored c.roll_back.new.storage × (statements_of c.roll_back.new.storage ≡ take c.args.len (statements_of c.args.storage.now)) × Extends (names_in c.roll_back.new.storage) (names_in c.args.storage.now)
left c =
    let k = c.args.storage.now in
    let n = c.args.len in
    let e = entry_from_ref c.entry-first.result c.entry-first.ensures.0 in
    let away = c.remove_entries.ensures in
    let back = c.roll_back.ensures in
    let new = c.roll_back.new.storage in
    let numbering : new.numbering ≡ naming_of (take n (statements_of k)) = back.names ∙ (ap (take _) away.names.0 ∙ (ap (λ m. take m k.numbering) (omega arith) ∙ numbering-front k n e c.requires.stored c.entry-first.ensures.1)) in
    let fewer = front-naming k n e c.requires.stored c.entry-first.ensures.1 in
    let names = ap declared_symbols numbering ∙ fewer.symbols in
    let labels = ap declared_labels numbering ∙ fewer.labels in
    let counts = c.requires.stored.kept.each n e c.entry-first.ensures.1 in
    let cut : IsCut (names_in k) (labels_in k) k.positions.items k.entries (names_in new) (labels_in new) new.positions.items new.entries new.last_active n e = record {
      at = c.entry-first.ensures.1;
      names_cut = names;
      labels_cut = labels;
      positions_cut = back.positions ∙ ap (λ v. take (length (labels_in new)) v.items) away.names.1 ∙ ap (λ m. take m k.positions.items) (ap length labels ∙ sym counts.label_count);
      entries_cut = back.entries ∙ away.entries;
      last_active_back = back.last_active;
    } in
    let S = statements_of k in
    let fewer-than : n < length S = omega (arith, slice_get_within k.entries n e c.entry-first.ensures.1, (stored-blocks k c.requires.stored).count) in
    let long : length c.remove_entries.new.storage.entries ≡ n = ap length away.entries ∙ length-take-le n k.entries (omega (arith, fewer-than, (stored-blocks k c.requires.stored).count)) in
    let ends : new.ends.items ≡ take n c.remove_entries.new.storage.ends.items = back.ends ∙ ap (λ m. take m c.remove_entries.new.storage.ends.items) long in
    let statements = cut-statements c.requires.stored.kept cut in
    let low : n ≤ length k.entries = omega (arith, slice_get_within k.entries n e c.entry-first.ensures.1) in (
      record {
        kept = kept-cut c.requires.stored.kept cut;
        numbered = numbering ∙ ap naming_of (sym statements);
        ended = rw (statements, ends)
            (ends-front c.remove_entries.new.storage.ends.items S n (omega (arith, fewer-than)) (away.count ∙ c.requires.stored.ended.count) away.ends);
        floats = rw (back.entries ∙ away.entries) (floats-front k.entries k.floats new.floats n c.requires.stored.floats (until n _ k.floats _ new.floats long away.floats back.floats));
        disjoints = rw (back.entries ∙ away.entries) (table-front Disj k.entries k.disjoints new.disjoints n c.requires.stored.disjoints low (until n _ k.disjoints _ new.disjoints long away.disjoints back.disjoints));
        variables = rw (back.entries ∙ away.entries) (table-front Var k.entries k.variables new.variables n c.requires.stored.variables low (until n _ k.variables _ new.variables long away.variables back.variables));
      },
      statements,
      names-front c.requires.stored.kept cut,
    )

pub returns-then-len : goal.returns-then-len
returns-then-len c =
    let new = left (goal.at.returns-then-len c).After-roll_back in
    record { stored = new.0; statements = new.1; names = new.2 }
