use Rattle.unproved.proofs.Words.{◌≡◌, ◌+◌, [], drop, take, first_broken}
use Rattle.scope.specs.Active.{bares}
use Rattle.unproved.proofs.legal_database.add_all.Given as goal

abbrev pub invariant-loop-statement : goal.invariant-loop-statement
invariant-loop-statement l = record {
  same : l.rules.statements ≡ l.frames.statements;
  taken : l.frames.statements ≡ bares (take l.statement-index l.statements);
  left : first_broken 1 [] l.statements ≡ first_broken (l.statement-index + 1) l.frames.statements (drop l.statement-index l.statements);
}
