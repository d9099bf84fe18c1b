use Rattle.proof_pages.proofs.Words.{◌≡◌, ◌++◌, take, flat_map}
use Rattle.proof_pages.specs.Pages.{typecode_html}
use Rattle.proof_pages.proofs.frame_part.push_typecodes.Given as goal

abbrev pub invariant-loop-typecode : goal.invariant-loop-typecode
invariant-loop-typecode l = l.page.items ≡ l.initial.page.items ++ flat_map (typecode_html l.typecodes l.frames.names) (take l.typecode-index l.shown)
