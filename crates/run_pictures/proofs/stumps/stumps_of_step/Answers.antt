use Rattle.run_pictures.proofs.Words.{stumps_of, packets_of}
use Rattle.run_pictures.proofs.StumpsLemmas.{one_packet, no_packet_left}
use Rattle.run_pictures.proofs.stumps.stumps_of_step.Goals as goal

pub loop-number-preserved : goal.loop-number-preserved
loop-number-preserved c =
    one_packet (packets_of c.args.world.now) c.args.shown.now c.loop-number.number c.args.step.end_post
    c.loop-number.stumps.items c.push_stump.new.stumps.items (stumps_of (packets_of c.args.world.now) c.args.shown.now c.args.step)
    c.loop-number-test.true c.loop-number.invariant c.in_ok-push_stump.ensures

pub returns : goal.returns
returns c =
    no_packet_left (packets_of c.args.world.now) c.args.shown.now c.loop-number.number c.args.step.end_post
    c.loop-number.stumps.items (stumps_of (packets_of c.args.world.now) c.args.shown.now c.args.step)
    c.loop-number-test.false c.loop-number.invariant
