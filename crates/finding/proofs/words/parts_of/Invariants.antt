use Rattle.std.proofs.Common.{◌-◌, ◌≤◌, length}
use Rattle.finding.proofs.WordsLemmas.{AreBefore}
use Rattle.finding.proofs.words.parts_of.Given as goal

abbrev pub invariant-loop-found : goal.invariant-loop-found
invariant-loop-found l = record { within : l.at ≤ length l.text; before : AreBefore l.text l.at l.parts.items }

abbrev pub decreases-loop-found : goal.decreases-loop-found
decreases-loop-found l = length l.text - l.at
