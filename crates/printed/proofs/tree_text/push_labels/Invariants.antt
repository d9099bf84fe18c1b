use Rattle.printed.proofs.Words.{◌≡◌, ◌++◌, take, flat_map, label_line}
use Rattle.printed.proofs.tree_text.push_labels.Given as goal

abbrev pub invariant-loop-label : goal.invariant-loop-label
invariant-loop-label l = l.text.items ≡ l.initial.text.items ++ flat_map label_line (take l.label-index l.labels)
