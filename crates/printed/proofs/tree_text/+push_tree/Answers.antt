use Rattle.printed.proofs.Words.{◌∙◌, sym, ap, ◌++◌, append-nil, map, drop_all, derivation_of, from_list, trees_lines}
use Rattle.printed.proofs.TreesLemmas.{tree_lines_whole}
use Rattle.printed.proofs.tree_text.+push_tree.Goals as goal

pub returns-after-loop-child : goal.returns-after-loop-child
returns-after-loop-child t c =
    tree_lines_whole c.args.statements.now c.args.depth c.in_ok-below-in-Apply.below c.in-Apply.at c.in-Apply.children c.args.tree.now _ _ c.args.text.now.items _ _
    c.in-Apply.is c.deref-child-items.ensures.value (drop_all _ _ c.loop-child-test.false) c.in_ok-below-in-Apply.ensures c.in_ok-push_tree_node-in-Apply.ensures c.loop-child.invariant
