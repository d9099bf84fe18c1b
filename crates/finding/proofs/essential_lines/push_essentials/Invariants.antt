use Rattle.finding.proofs.LineWords.{◌≡◌, ◌++◌, true, length, listed_essentials}
use Rattle.finding.proofs.essential_lines.push_essentials.Given as goal

abbrev pub invariant-loop-position : goal.invariant-loop-position
invariant-loop-position l = l.lines.items ++ listed_essentials l.statements l.is_first l.rest ≡ l.initial.lines.items ++ listed_essentials l.statements true l.positions

abbrev pub decreases-loop-position : goal.decreases-loop-position
decreases-loop-position l = length l.rest
