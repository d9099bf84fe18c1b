use Rattle.scope.proofs.Words.{◌∙◌, ap, sym, subst, arith, length, take, slice_get, take-map, take_all, zip_kinds, declared_symbols, declared_labels, is_symbol_kind, is_label_kind, kinds_of, AreCounted, indexes_where}
use Rattle.scope.proofs.KindsLemmas.{their-take, length-seen}
use Rattle.scope.proofs.KindCountLemmas.{kinds-length, counted-take, take-same, indexes-take}
use Rattle.scope.proofs.EntryLemmas.{symbols-earlier_symbols, labels-earlier_symbols, earlier_symbols-within}
use Rattle.scope.proofs.numbering.Numbering.truncate.Goals as goal

pub returns-then-len : goal.returns-then-len
returns-then-len c =
    let a = c.self.inside in
    let all = ap length (sym c.self.view_is) ∙ length-seen a.names (kinds_of a.entries.items) (kinds-length a.names a.entries.items c.self.invariant.same) in
    let len = c.len.ensures in let past = c.if-len.true in
    sym (take_all c.args.len c.args.self.now (omega (arith, all, len, past)))

pub overflow_sub-len : goal.overflow_sub-len
overflow_sub-len c =
    let a = c.self.inside in
    let len = c.len.ensures in let within = c.if-len.false in
    earlier_symbols-within a.names a.entries.items c.self.invariant.same c.self.invariant.counted c.entry_at-earlier_symbols.result c.args.len (omega (arith, len, within))
    (ap (λ es. slice_get es c.args.len) (sym c.as_slice.ensures.value) ∙ c.entry_at-earlier_symbols.ensures)

pub returns : goal.returns
returns c =
    let a = c.self.inside in
    ap (λ names. zip_kinds names (kinds_of c.truncate-2.new.self.items)) c.truncate.ensures
    ∙ (ap (zip_kinds (take c.args.len a.names)) (ap kinds_of c.truncate-2.ensures.items ∙ sym (take-map (λ e. e.kind) c.args.len a.entries.items))
    ∙ (their-take c.args.len a.names (kinds_of a.entries.items) (kinds-length a.names a.entries.items c.self.invariant.same) ∙ ap (take c.args.len) c.self.view_is))

pub invariant_of-self : goal.invariant_of-self
invariant_of-self c =
    let a = c.self.inside in
    let D = take c.args.len (zip_kinds a.names (kinds_of a.entries.items)) in
    let len = c.len.ensures in let within = c.if-len.false in
    let at = ap (λ es. slice_get es c.args.len) (sym c.as_slice.ensures.value) ∙ c.entry_at-earlier_symbols.ensures in
    let symbols = symbols-earlier_symbols a.names a.entries.items c.self.invariant.same c.self.invariant.counted c.entry_at-earlier_symbols.result c.args.len at in
    let labels = labels-earlier_symbols a.names a.entries.items c.self.invariant.same c.self.invariant.counted c.entry_at-earlier_symbols.result c.args.len (omega (arith, len, within)) at in
    record {
      same = ap length c.truncate-2.ensures.items ∙ (take-same c.args.len a.entries.items a.names c.self.invariant.same ∙ ap length (sym c.truncate.ensures));
      counted = subst (AreCounted 0) (sym c.truncate-2.ensures.items) (counted-take 0 c.args.len a.entries.items c.self.invariant.counted);
      symbols_are = c.truncate-3.ensures.items ∙ (ap (λ n. take n a.symbols.items) symbols ∙ (ap (take (length (declared_symbols D))) c.self.invariant.symbols_are
          ∙ (sym (indexes-take is_symbol_kind 0 c.args.len a.names a.entries.items c.self.invariant.same) ∙ ap (indexes_where is_symbol_kind 0) (sym c.truncate-2.ensures.items))));
      labels_are = c.truncate-4.ensures.items ∙ (ap (λ n. take n a.labels.items) labels ∙ (ap (take (length (declared_labels D))) c.self.invariant.labels_are
          ∙ (sym (indexes-take is_label_kind 0 c.args.len a.names a.entries.items c.self.invariant.same) ∙ ap (indexes_where is_label_kind 0) (sym c.truncate-2.ensures.items))));
    }
