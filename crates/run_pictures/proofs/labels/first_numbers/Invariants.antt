use Rattle.run_pictures.proofs.Words.{◌≡◌, ◌≤◌, drop, length, end_of_numbers}
use Rattle.run_pictures.proofs.labels.first_numbers.Given as goal

abbrev pub invariant-loop-read : goal.invariant-loop-read
invariant-loop-read l = (end_of_numbers l.len l.read (drop l.read l.numbers) ≡ end_of_numbers 0 0 l.numbers) × (l.len ≤ length l.numbers)
