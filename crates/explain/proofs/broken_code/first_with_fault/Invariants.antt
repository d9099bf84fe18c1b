use Rattle.explain.specs.Breaks.{has_fault}
use Rattle.explain.proofs.TokenLemmas.{IsPassed}
use Rattle.explain.proofs.broken_code.first_with_fault.Given as goal

abbrev pub invariant-loop-word : goal.invariant-loop-word
invariant-loop-word l = IsPassed (has_fault l.mandatory l.fault) l.initial.words l.words l.index
