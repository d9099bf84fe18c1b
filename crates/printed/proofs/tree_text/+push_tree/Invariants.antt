use Rattle.printed.proofs.Words.{◌≡◌, ◌++◌, drop, map, derivation_of, from_list, trees_lines}
use Rattle.printed.proofs.tree_text.+push_tree.Given as goal

abbrev pub invariant-loop-child : goal.invariant-loop-child
invariant-loop-child l =
    l.text.items ++ trees_lines l.statements l.below (from_list (map derivation_of (drop l.child-index l.child-items)))
    ≡ l.initial.text.items ++ trees_lines l.statements l.below (from_list (map derivation_of l.child-items))
