use Rattle.subst.proofs.Words.{◌≡◌, Extends}
use Rattle.subst.proofs.VariableListLemmas.{AreRead}
use Rattle.subst.proofs.variable_lists.VariableLists.read.Given as goal

-- the symbols so far were read
abbrev pub invariant-loop-symbol : goal.invariant-loop-symbol
invariant-loop-symbol l = record {
  read : AreRead l.pairs l.symbols l.symbol-index l.fn.self.variables.items l.self.variables.items l.self.met;
  kept : Extends l.fn.self.variables.items l.self.variables.items;
  lists : l.self.lists ≡ l.fn.self.lists;
  others : l.self.others ≡ l.fn.self.others;
  work : l.self.work ≡ l.initial.self.work;
}
