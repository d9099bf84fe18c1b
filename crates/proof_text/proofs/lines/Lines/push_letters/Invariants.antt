use Rattle.std.proofs.Common.{◌-◌, length}
use Rattle.proof_text.proofs.lines.Lines.push_letters.Given as goal

abbrev pub decreases-loop-at : goal.decreases-loop-at
decreases-loop-at l = length l.letters - l.at
