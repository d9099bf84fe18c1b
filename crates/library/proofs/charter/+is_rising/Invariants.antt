use Rattle.std.proofs.Common.{length}
use Rattle.library.proofs.charter.+is_rising.Given as goal

abbrev pub decreases-is_rising : goal.decreases-is_rising
decreases-is_rising l = length l.numbers.now
