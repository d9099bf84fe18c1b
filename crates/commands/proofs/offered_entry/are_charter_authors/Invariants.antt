use Rattle.commands.proofs.Words.{◌≡◌, ◌≤◌, is_some, length, MAX_NAMES, charter_authors_of}
use Rattle.commands.proofs.CharterNameLemmas.{are_names_after}
use Rattle.commands.proofs.offered_entry.are_charter_authors.Given as goal

abbrev pub decreases-loop-word : goal.decreases-loop-word
decreases-loop-word l = length l.words

abbrev pub invariant-loop-word : goal.invariant-loop-word
invariant-loop-word l = record { decides : is_some (charter_authors_of l.fn.words) ≡ are_names_after l.count l.last l.words; few : l.count ≤ MAX_NAMES }
