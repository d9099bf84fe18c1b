use Rattle.std.proofs.Common.{◌≡◌, ◌++◌, map}
use Rattle.scope.proofs.legal.are_distinct_by_sorting.Given as goal

abbrev pub invariant-loop-word : goal.invariant-loop-word
invariant-loop-word l = map (λ word. word.now) l.ordered.items ++ l.word-iterator ≡ l.words
