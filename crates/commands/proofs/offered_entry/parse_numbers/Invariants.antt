use Rattle.commands.proofs.Words.{◌≡◌, ◌++◌, option_map, length, numbers_of}
use Rattle.commands.proofs.offered_entry.parse_numbers.Given as goal

abbrev pub decreases-loop-word : goal.decreases-loop-word
decreases-loop-word l = length l.words

abbrev pub invariant-loop-word : goal.invariant-loop-word
invariant-loop-word l = numbers_of l.fn.words ≡ option_map (λ more. l.numbers.items ++ more) (numbers_of l.words)
