use Rattle.proof_pages.proofs.GroupLemmas.{groups_next}
use Rattle.proof_pages.specs.Pages.{view_of}
use Rattle.proof_pages.proofs.frame_part.push_shown_groups.Goals as goal

pub loop-index-preserved : goal.loop-index-preserved
loop-index-preserved c =
    groups_next (view_of c.args.notation.now) c.args.groups.now c.loop-index.index c.get.result.now c.args.page.now.items c.loop-index.page.items c.push_group_unless.new.page.items c.is_covered.result
    c.loop-index.invariant c.get.ensures c.is_covered.ensures c.in_ok-push_group_unless.ensures
