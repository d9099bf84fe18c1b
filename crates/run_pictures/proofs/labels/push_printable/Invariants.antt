use Rattle.run_pictures.proofs.Words.{◌≡◌, ◌++◌, map, take, printable}
use Rattle.run_pictures.proofs.labels.push_printable.Given as goal

abbrev pub invariant-loop-byte : goal.invariant-loop-byte
invariant-loop-byte l = l.label.items ≡ l.initial.label.items ++ map printable (take l.byte-index l.bytes)
