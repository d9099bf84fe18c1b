use Rattle.printed.proofs.Words.{◌≡◌, ◌++◌, take, flat_map, spaced_value_text}
use Rattle.printed.proofs.counted.push_carried_log.Given as goal

abbrev pub invariant-loop-entry : goal.invariant-loop-entry
invariant-loop-entry l = l.text.items ≡ l.initial.text.items ++ flat_map spaced_value_text (take l.entry-index l.entries)
