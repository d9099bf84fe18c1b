-- The `$p` so far are counted.
use Rattle.std.proofs.Common.{◌≡◌, take}
use Rattle.std.specs.Prelude.{count_by}
use Rattle.scope.specs.Active.{is_provable}
use Rattle.questions.proofs.answers.count_of_proofs.Given as goal

abbrev pub invariant-loop-statement : goal.invariant-loop-statement
invariant-loop-statement l = l.count ≡ count_by is_provable (take l.statement-index l.fn.statements)
