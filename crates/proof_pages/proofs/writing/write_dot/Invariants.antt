use Rattle.proof_pages.proofs.Words.{◌++◌, take, concat_texts, graph_header, node_text, IsWrittenThenBuffered}
use Rattle.proof_pages.proofs.writing.write_dot.Given as goal

abbrev pub invariant-loop-index : goal.invariant-loop-index
invariant-loop-index g l = IsWrittenThenBuffered (g.W.Write.contents l.initial.out) (g.W.Write.contents l.out) l.text.items (graph_header l.label ++ concat_texts (node_text l.frames.statements l.frames.names) 0 (take l.index l.table))
