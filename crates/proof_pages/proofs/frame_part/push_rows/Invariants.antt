use Rattle.proof_pages.proofs.Words.{◌≡◌, ◌++◌, take, flat_map}
use Rattle.proof_pages.specs.Pages.{hypothesis_html, view_of}
use Rattle.proof_pages.proofs.frame_part.push_rows.Given as goal

abbrev pub invariant-loop-position : goal.invariant-loop-position
invariant-loop-position l = l.page.items ≡ l.initial.page.items ++ flat_map (hypothesis_html (view_of l.notation)) (take l.position-index l.positions)
