use Rattle.frame.proofs.Words.{◌≡◌, ◌++◌, drop, mandatory_positions}
use Rattle.frame.proofs.one_frame.mandatory_hypotheses.Given as goal

abbrev pub invariant-loop-entry : goal.invariant-loop-entry
invariant-loop-entry l = l.list.items ++ mandatory_positions l.used (drop l.entry-index l.frame_statements) ≡ mandatory_positions l.used l.frame_statements
