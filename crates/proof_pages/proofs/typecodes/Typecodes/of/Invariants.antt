use Rattle.std.specs.Prelude.{◌≡◌}
use Rattle.proof_pages.specs.Colours.{classes_of_first}
use Rattle.proof_pages.proofs.typecodes.Typecodes.of.Given as goal

abbrev pub invariant-loop-index : goal.invariant-loop-index
invariant-loop-index l = l.typecodes ≡ classes_of_first l.frames.names l.statements l.frames.statements l.index
