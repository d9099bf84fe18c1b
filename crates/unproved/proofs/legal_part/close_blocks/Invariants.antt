use Rattle.std.proofs.Common.{◌≡◌, ◌++◌}
use Rattle.std.specs.Prelude.{replicate}
use Rattle.mm_read.specs.declared.stmt.Stmt.TheVariants.{Close}
use Rattle.unproved.proofs.legal_part.close_blocks.Given as goal

abbrev pub invariant-loop-block : goal.invariant-loop-block
invariant-loop-block l = l.statements.items ≡ l.initial.statements.items ++ replicate l._block Close
