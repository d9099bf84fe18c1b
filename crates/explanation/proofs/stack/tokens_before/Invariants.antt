use Rattle.std.proofs.Common.{◌≡◌, ◌++◌}
use Rattle.mm_lex.specs.Words.{AreWords}
use Rattle.explanation.specs.Fronts.{before_spot}
use Rattle.explanation.proofs.stack.tokens_before.Given as goal

abbrev pub invariant-loop-word : goal.invariant-loop-word
invariant-loop-word l = record {
  visible : AreWords l.rest;
  same : l.tokens ++ before_spot l.rest l.left l.spot.byte ≡ before_spot l.proof l.spot.token l.spot.byte;
}
