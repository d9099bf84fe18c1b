use Rattle.proof_pages.proofs.Words.{◌≡◌, ◌++◌}
use Rattle.proof_pages.specs.Pages.{shown_groups, view_of}
use Rattle.proof_pages.proofs.frame_part.push_shown_groups.Given as goal

abbrev pub invariant-loop-index : goal.invariant-loop-index
invariant-loop-index l = l.page.items ≡ l.initial.page.items ++ shown_groups (view_of l.notation) l.groups l.index
