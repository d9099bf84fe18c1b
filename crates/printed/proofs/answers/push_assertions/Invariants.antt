use Rattle.printed.proofs.Words.{◌≡◌, ◌++◌, take, flat_map, assertion_line}
use Rattle.printed.proofs.answers.push_assertions.Given as goal

abbrev pub invariant-loop-assertion : goal.invariant-loop-assertion
invariant-loop-assertion l = l.text.items ≡ l.initial.text.items ++ flat_map assertion_line (take l.assertion-index l.list)
