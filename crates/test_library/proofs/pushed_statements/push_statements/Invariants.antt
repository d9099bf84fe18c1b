use Rattle.std.proofs.Common.{◌≡◌, [], ◌∷◌, ◌++◌}
use Rattle.std.specs.Prelude.{IfSome}
use Rattle.mm_read.specs.Statements.{Database}
use Rattle.scope.specs.Active.{bare}
use Rattle.test_library.proofs.pushed_statements.push_statements.Given as goal

abbrev pub invariant-loop-stmt : goal.invariant-loop-stmt
invariant-loop-stmt l = record {
  same : l.scope.statements ≡ l.frames.statements;
  last : IfSome l.last (λ stmt. (S : Database) × (l.frames.statements ≡ S ++ bare stmt.now ∷ []));
}
