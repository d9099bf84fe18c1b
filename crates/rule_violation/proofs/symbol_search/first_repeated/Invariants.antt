use Rattle.rule_violation.proofs.Words.{◌≡◌, ◌++◌, AreDistinct}
use Rattle.rule_violation.proofs.symbol_search.first_repeated.Given as goal

abbrev pub invariant-loop-word : goal.invariant-loop-word
invariant-loop-word l = record {
  split : l.names ++ l.word-iterator ≡ l.words;
  distinct : AreDistinct l.names;
}
