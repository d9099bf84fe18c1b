use Rattle.std.proofs.Common.{length}
use Rattle.event_lines.proofs.offers.+push_spaced_numbers.Given as goal

abbrev pub decreases-push_spaced_numbers : goal.decreases-push_spaced_numbers
decreases-push_spaced_numbers l = length l.numbers.now
