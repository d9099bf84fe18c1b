use Rattle.std.proofs.Common.{◌≡◌, ◌+◌, ◌-◌, suc, arith}
use Rattle.proof_code.proofs.ReadProofLemmas.{one-added}
use Rattle.proof_code.proofs.compressed_proof.all_labels.Goals as goal

pub loop-preserved : goal.loop-preserved
loop-preserved c =
    let left : c.args.count - c.loop.counter ≡ suc (c.args.count - (c.loop.counter + 1)) = let more = c.loop-test.true in omega (arith, more) in
    one-added _ _ _ _ _ _ _ _ c.loop.invariant c.in-Some.ensures.steps left c.in_ok-push.ensures.ok
