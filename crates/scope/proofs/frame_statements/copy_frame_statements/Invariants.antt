use Rattle.scope.proofs.Words.{◌≡◌, take, flat_map, as_frame_statement}
use Rattle.scope.proofs.frame_statements.copy_frame_statements.Given as goal

abbrev pub invariant-loop-entry : goal.invariant-loop-entry
invariant-loop-entry l = l.copied.items ≡ flat_map (λ e. as_frame_statement e.at e.stmt) (take l.entry-index l.frame_statements)
