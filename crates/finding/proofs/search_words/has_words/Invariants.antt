use Rattle.std.proofs.Common.{◌-◌, ◌≤◌, length}
use Rattle.finding.proofs.HasWordLemmas.{AreAllIf}
use Rattle.finding.proofs.search_words.has_words.Given as goal

abbrev pub invariant-loop-found : goal.invariant-loop-found
invariant-loop-found l = record { within : l.at ≤ length l.text; all : AreAllIf l.description l.text l.at }

abbrev pub decreases-loop-found : goal.decreases-loop-found
decreases-loop-found l = length l.text - l.at
