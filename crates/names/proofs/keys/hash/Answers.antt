use Rattle.names.proofs.KeysLemmas.{hash-is}
use Rattle.names.proofs.keys.hash.Goals as goal

pub returns-clause-key : goal.returns-clause-key
returns-clause-key c = hash-is c.args.name.now _ _ _ _ c.requires c.loop-block.invariant c.loop-block.auto.block-end c.loop-block-test.false c.eight_bytes-2.ensures c.mix.ensures
