use Rattle.explain.specs.LettersBefore.{IsReadTo}
use Rattle.explain.proofs.broken_letters.letter_break.Given as goal

abbrev pub invariant-loop-i : goal.invariant-loop-i
invariant-loop-i l = IsReadTo l.label_count l.letters l.i l.state.limit l.state.digits l.state.begin
