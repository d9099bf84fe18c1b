use Rattle.std.proofs.Common.{◌≡◌, ◌+◌, ◌∙◌, arith, vec_len}
use Rattle.nodes.proofs.PrefixLemmas.{prefix_trans}
use Rattle.nodes.proofs.QuestionsLemmas.{more_statuses}
use Rattle.nodes.proofs.desk.Desk.node_statuses.Goals as goal

pub loop-index-preserved : goal.loop-index-preserved
loop-index-preserved g c =
    let more : vec_len c.push.new.self ≡ vec_len c.loop-index.statuses + 1 = c.in-Ok-push.ensures.len in
    record {
      seen = prefix_trans c.args.self.now.seen c.loop-index.self.seen c.node_status.new.self.seen c.loop-index.invariant.seen c.in_ok-status.ensures.seen;
      nodes = c.in_ok-status.ensures.nodes ∙ c.loop-index.invariant.nodes;
      count = omega (arith, more, c.loop-index.invariant.count);
      statuses = more_statuses c.args.self.now.seen c.loop-index.self.seen c.node_status.new.self.seen c.in-Ok.k c.loop-index.statuses.items c.push.new.self.items c.in_ok-status.status
          c.loop-index.invariant.seen c.in_ok-status.ensures.seen c.in-Ok-push.ensures.items (omega (arith, c.loop-index.statuses.ok.0, c.loop-index.invariant.count, c.in-Ok.ensures))
          c.loop-index.invariant.statuses c.in_ok-status.ensures.node_status;
    }
