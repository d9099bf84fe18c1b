use Rattle.std.proofs.Common.{length}
use Rattle.commands.proofs.ScriptsLemmas.{IsRead}
use Rattle.commands.proofs.script.parse_script.Given as goal

abbrev pub decreases-loop-line : goal.decreases-loop-line
decreases-loop-line g l = length l.rest.lines

abbrev pub invariant-loop-line : goal.invariant-loop-line
invariant-loop-line g l = IsRead g.L.Line.by_definition l.script l.lines.items l.is_out_of_memory l.rest
