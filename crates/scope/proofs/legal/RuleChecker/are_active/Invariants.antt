use Rattle.scope.proofs.Words.{◌≡◌, list_all, is_variable, symbols_of}
use Rattle.scope.proofs.SymbolNameLemmas.{AreDone}
use Rattle.scope.proofs.legal.RuleChecker.are_active.Given as goal

abbrev pub invariant-loop-symbol : goal.invariant-loop-symbol
invariant-loop-symbol l = record {
  active : list_all (λ x. is_variable l.self.statements x) l.symbols ≡ list_all (λ x. is_variable l.self.statements x) l.symbol-iterator;
  recorded : AreDone (symbols_of l.self.statements) l.symbols l.symbol-iterator l.recorded;
}
