use Rattle.std.proofs.Common.{length}
use Rattle.commands.proofs.TextsLemmas.{IsPassed}
use Rattle.commands.proofs.text_form.lines_until.Given as goal

abbrev pub decreases-loop-line : goal.decreases-loop-line
decreases-loop-line l = length l.lines

abbrev pub invariant-loop-line : goal.invariant-loop-line
invariant-loop-line l = IsPassed l.word l.all l.lines l.len l.count
