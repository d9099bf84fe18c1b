use Rattle.finding.proofs.PatternPrelude.{◌≡◌, ◌-◌, ◌≤◌, length, find, words_in, words_after, is_unknown_word}
use Rattle.finding.proofs.words.first_unknown_word.Given as goal

abbrev pub invariant-loop-found : goal.invariant-loop-found
invariant-loop-found l = record { within : l.at ≤ length l.text; same : find is_unknown_word (words_in l.text) ≡ find is_unknown_word (words_after l.text l.at) }

abbrev pub decreases-loop-found : goal.decreases-loop-found
decreases-loop-found l = length l.text - l.at
