use Rattle.net.proofs.Words.{Ok, refl, subst, Packet, on_packet, offer_result, begin_result, same_room, Offer, Begin, Deliver, IsStagingResultAt, steps}
use Rattle.net.proofs.StepsStaged.{made_staged, packet_is}
use Rattle.net.proofs.staged.stage_event.Goals.{in-Offer+in_ok-ready-in-Offer+in_ok-copy-in-Offer, in-Begin+in_ok-ready_begin-in-Begin, in-Deliver+in_ok-ready-in-Deliver, in-Restart+in_ok-restart_posts-in-Restart}
use Rattle.net.proofs.staged.stage_event.Goals as goal

pub returns-clause-ready : goal.returns-clause-ready
returns-clause-ready g c =
    let old = c.args.node.now in
    elim c.match-event.branch [
      | in-Offer+in_ok-ready-in-Offer+in_ok-copy-in-Offer w ↦
          let made = w.in_ok-ready-in-Offer.ready in
          rw (w.in-Offer.is, w.node-is, w.event-is)
          (made_staged old w.ready_offer.new.self c.args.k (Offer w.in-Offer.at w.in-Offer.value) (Offer w.in-Offer.at w.in_ok-copy-in-Offer.field-0) (offer_result g.V.Value.bytes old.node w.in-Offer.value) made w.in_ok-ready-in-Offer.ensures.ready (rw w.in_ok-copy-in-Offer.ensures refl) tt w.in_ok-ready-in-Offer.ensures.posts)
      | in-Begin+in_ok-ready_begin-in-Begin w ↦
          let made = w.in_ok-ready_begin-in-Begin.field-0 in
          rw (w.in-Begin.is, w.node-is, w.event-is)
          (made_staged old w.ready_begin.new.self c.args.k (Begin w.in-Begin.at) (Begin w.in-Begin.at) (begin_result old.node) made w.in_ok-ready_begin-in-Begin.ensures.ready refl tt w.in_ok-ready_begin-in-Begin.ensures.posts)
      | in-Deliver+in_ok-ready-in-Deliver w ↦
          let made = w.in_ok-ready-in-Deliver.ready in
          rw (w.in-Deliver.is, w.node-is, w.event-is)
          (λ p at. subst (λ (q : Packet g.row.V.Denot). IsStagingResultAt old w.ready_packet.new.self c.args.k (Deliver w.in-Deliver.number) (Ok (on_packet old.node q)) (Ok (record { at = c.args.k; event = Deliver w.in-Deliver.number; work = steps made })))
          (packet_is c.args.packets.now w.in-Deliver.number w.index-packets-number.result p w.index-packets-number.is at)
          (made_staged old w.ready_packet.new.self c.args.k (Deliver w.in-Deliver.number) (Deliver w.in-Deliver.number) (Ok (on_packet old.node w.index-packets-number.result)) made w.in_ok-ready-in-Deliver.ensures.ready refl tt w.in_ok-ready-in-Deliver.ensures.posts))
      | in-Restart+in_ok-restart_posts-in-Restart w ↦
          rw (w.in-Restart.is, w.node-is, w.event-is)
          record { at = refl; event = refl; ready = w.in_ok-restart_posts-in-Restart.ensures.asks; is_step = refl; kind = refl; posts = w.in_ok-restart_posts-in-Restart.ensures.posts }
    ]

pub returns-clause-capacity : goal.returns-clause-capacity
returns-clause-capacity g c = elim c.match-event.branch [
  | in-Offer+in_ok-ready-in-Offer+in_ok-copy-in-Offer w ↦ rw w.node-is w.ready_offer.ensures.capacity
  | in-Begin+in_ok-ready_begin-in-Begin w ↦ rw w.node-is w.ready_begin.ensures.capacity
  | in-Deliver+in_ok-ready-in-Deliver w ↦ rw w.node-is w.ready_packet.ensures.capacity
  | in-Restart+in_ok-restart_posts-in-Restart w ↦ rw w.node-is (same_room c.args.node.now)
]
