-- The words that are left get fewer.
use Rattle.std.proofs.Common.{length}
use Rattle.commands.proofs.bad_lines.names_problem.Given as goal

abbrev pub decreases-loop-word : goal.decreases-loop-word
decreases-loop-word l = length l.words
