use Rattle.explain.proofs.Words.{take, AllMatch, images_read, last_named}
use Rattle.explain.proofs.citation.first_mismatch.Given as goal

abbrev pub invariant-loop-k : goal.invariant-loop-k
invariant-loop-k l =
    AllMatch l.frames.statements (images_read l.frames.statements l.mandatory (last_named l.frames l.cited.hypotheses l.results)) (take l.k l.mandatory) (take l.k (last_named l.frames l.cited.hypotheses l.results))
