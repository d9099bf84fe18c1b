use Rattle.scope.proofs.Words.{◌≡◌, ◌++◌, true, false, Name, has_name, Declared, declared_symbols, kind_in, is_some_label, with_kinds}
use Rattle.scope.proofs.SymbolNameLemmas.{AreDone}
use Rattle.scope.proofs.declare.declare_symbols.Given as goal

abbrev pub invariant-loop-symbol : goal.invariant-loop-symbol
invariant-loop-symbol l = record {
  rest : with_kinds l.names l.kind l.symbol-iterator ≡ with_kinds l.initial.names l.kind l.symbols;
  free : (x : Name) → has_name x l.symbol-iterator ≡ true → is_some_label (kind_in l.names x) ≡ false;
  more : (more : Declared) × (l.names ≡ l.initial.names ++ more);
  recorded : AreDone (declared_symbols l.names) l.symbols l.symbol-iterator l.recorded;
}
