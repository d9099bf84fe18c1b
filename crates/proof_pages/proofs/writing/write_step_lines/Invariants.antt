use Rattle.proof_pages.proofs.Words.{take, step_line, concat_texts, IsWrittenThenBuffered}
use Rattle.proof_pages.proofs.writing.write_step_lines.Given as goal

abbrev pub invariant-loop-index : goal.invariant-loop-index
invariant-loop-index g l = IsWrittenThenBuffered (g.W.Write.contents l.initial.out) (g.W.Write.contents l.out) l.text.items (concat_texts (step_line l.frames.statements l.frames.names) 0 (take l.index l.table))
