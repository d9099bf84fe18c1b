use Rattle.proof_pages.proofs.Words.{◌≡◌}
use Rattle.proof_pages.specs.Pages.{is_covered_by_first}
use Rattle.proof_pages.proofs.frame_part.is_covered.Given as goal

abbrev pub invariant-loop-other : goal.invariant-loop-other
invariant-loop-other l = l.is_covered ≡ is_covered_by_first l.groups l.fn.index l.other
