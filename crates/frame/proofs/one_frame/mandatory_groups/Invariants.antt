use Rattle.frame.proofs.Words.{◌≡◌, ◌++◌, drop, groups_among}
use Rattle.frame.proofs.one_frame.mandatory_groups.Given as goal

abbrev pub invariant-loop-entry : goal.invariant-loop-entry
invariant-loop-entry l = l.groups.items ++ groups_among l.used (drop l.entry-index l.frame_statements) ≡ groups_among l.used l.frame_statements
