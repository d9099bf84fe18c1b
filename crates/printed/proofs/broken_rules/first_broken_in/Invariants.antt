use Rattle.printed.proofs.Words.{◌≡◌, ◌+◌, [], drop, first_broken}
use Rattle.printed.proofs.broken_rules.first_broken_in.Given as goal

abbrev pub invariant-loop-index : goal.invariant-loop-index
invariant-loop-index l = first_broken 1 [] l.statements ≡ first_broken (l.index + 1) l.scope.statements (drop l.index l.statements)
