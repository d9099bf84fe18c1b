use Rattle.scope.proofs.Words.{◌≡◌, ◌&&◌, ◌||◌, list_all, is_constant, is_variable, are_typed, starts_with_constant, is_constant_sort, symbols_of}
use Rattle.scope.proofs.SymbolNameLemmas.{AreDone}
use Rattle.scope.proofs.legal.RuleChecker.check_symbols.Given as goal

abbrev pub invariant-loop-symbol : goal.invariant-loop-symbol
invariant-loop-symbol l = record {
  symbols : list_all (λ x. is_constant l.self.statements x || is_variable l.self.statements x) l.expr ≡ list_all (λ x. is_constant l.self.statements x || is_variable l.self.statements x) l.symbol-iterator;
  leading : starts_with_constant l.self.statements l.expr ≡ is_constant_sort l.first_sort;
  typing : are_typed l.self.statements l.expr ≡ (l.typed && are_typed l.self.statements l.symbol-iterator);
  recorded : AreDone (symbols_of l.self.statements) l.expr l.symbol-iterator l.recorded;
}
