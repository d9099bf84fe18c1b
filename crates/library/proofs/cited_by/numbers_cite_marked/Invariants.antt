use Rattle.library.proofs.Words.{◌≡◌, map, take, Some, is_marked}
use Rattle.library.proofs.MeetingLemmas.{AreTested}
use Rattle.library.proofs.cited_by.numbers_cite_marked.Given as goal

abbrev pub invariant-loop : goal.invariant-loop
invariant-loop l = AreTested l.frames.statements l.marks l.initial.words l.words l.counter l.initial.label_marks.items l.label_marks.items

abbrev pub invariant-loop-position : goal.invariant-loop-position
invariant-loop-position l = l.label_marks.items ≡ map (λ position. is_marked l.marks (Some position)) (take l.position-index l.mandatory)
