use Rattle.std.proofs.Common.{◌≡◌, ◌++◌, take}
use Rattle.text.specs.FileNames.{escaped}
use Rattle.text.proofs.file_name.push_escaped.Given as goal

abbrev pub invariant-loop-byte : goal.invariant-loop-byte
invariant-loop-byte l = l.text.items ≡ l.initial.text.items ++ escaped (take l.byte-index l.label)
