use Rattle.scope.proofs.Words.{◌≡◌, ◌∙◌, ap, sym, subst, ◌++◌, ◌∷◌, [], List, append_assoc, false, Name, has_name, name_eq, or_right, declared_symbols, is_symbol_kind, is_some_label, kind_in, with_kinds, AreRecorded}
use Rattle.scope.proofs.AcceptLemmas.{with_kinds-more}
use Rattle.scope.proofs.SymbolNameLemmas.{names_where-append, label_free, recorded-later, recorded-more}
use Rattle.scope.proofs.declare.declare_symbols.Goals as goal

pub loop-symbol-preserved : goal.loop-symbol-preserved
loop-symbol-preserved c =
    let names = c.loop-symbol.names in
    let kind = c.args.kind in
    let x = c.in-Some.symbol.now in
    let rest = c.next.new.self in
    let i = c.loop-symbol.invariant in
    let done = c.in_ok-number.ensures.ok in
    let one = with_kinds-more names kind (x ∷ []) in
    let later : declared_symbols c.declare_symbol.new.names ≡ declared_symbols names ++ declared_symbols one.0 = ap declared_symbols (done ∙ one.1) ∙ names_where-append is_symbol_kind names one.0 in
    record {
      rest = ap (λ ns. with_kinds ns kind rest) done ∙ (ap (with_kinds names kind) (sym c.in-Some.ensures.steps) ∙ i.rest);
      free = λ y h. subst (λ ns. is_some_label (kind_in ns y) ≡ false) (sym done) (label_free names kind x y c.requires.symbol (i.free y (ap (has_name y) c.in-Some.ensures.steps ∙ or_right (name_eq y x) (has_name y rest) h)));
      more = (i.more.0 ++ one.0, done ∙ (one.1 ∙ (ap (λ ns. ns ++ one.0) i.more.1 ∙ append_assoc c.args.names.now i.more.0 one.0)));
      recorded = (
        i.recorded.0 ++ x ∷ [],
        append_assoc i.recorded.0 (x ∷ []) rest ∙ (ap (λ r. i.recorded.0 ++ r) (sym c.in-Some.ensures.steps) ∙ i.recorded.1),
        recorded-more (declared_symbols c.declare_symbol.new.names) i.recorded.0 x c.in_ok-number.number c.loop-symbol.recorded c.record_number.new.self c.in_ok-number.ensures.number c.record_number.ensures
            (subst (λ (N : List Name). AreRecorded N i.recorded.0 c.loop-symbol.recorded) (sym later) (recorded-later (declared_symbols names) (declared_symbols one.0) i.recorded.0 c.loop-symbol.recorded i.recorded.2)),
      );
    }
