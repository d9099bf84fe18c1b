use Rattle.proof_pages.proofs.BlockWords.{◌≤◌, ◌∙◌, ap, arith, length, group_line_of_numbers}
use Rattle.proof_pages.proofs.FrameLemmas.{more_items, all_items}
use Rattle.proof_pages.proofs.frame_lines.push_groups.Goals as goal

pub loop-index-preserved : goal.loop-index-preserved
loop-index-preserved c =
    more_items (group_line_of_numbers c.args.frames.now.names) c.args.groups.now c.loop-index.index _ _ _ _ c.loop-index.invariant c.get.ensures c.in_ok-push_group.ensures

pub returns : goal.returns
returns c = all_items (group_line_of_numbers c.args.frames.now.names) c.args.groups.now c.loop-index.index _ _ (omega arith) c.loop-index.invariant
