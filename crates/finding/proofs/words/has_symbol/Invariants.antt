use Rattle.finding.proofs.PatternPrelude.{◌≡◌, ◌-◌, ◌≤◌, length, list_any, words_in, words_after, is_symbol_word}
use Rattle.finding.proofs.words.has_symbol.Given as goal

abbrev pub invariant-loop-found : goal.invariant-loop-found
invariant-loop-found l = record { within : l.at ≤ length l.text; same : list_any is_symbol_word (words_in l.text) ≡ list_any is_symbol_word (words_after l.text l.at) }

abbrev pub decreases-loop-found : goal.decreases-loop-found
decreases-loop-found l = length l.text - l.at
