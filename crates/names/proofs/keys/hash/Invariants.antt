use Rattle.names.proofs.Words.{◌≡◌, mixed_front}
use Rattle.names.proofs.keys.hash.Given as goal

abbrev pub invariant-loop-block : goal.invariant-loop-block
invariant-loop-block l = l.front ≡ mixed_front l.name l.block
