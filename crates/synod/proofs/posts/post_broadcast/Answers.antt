use Rattle.synod.proofs.Words.{◌∙◌, arith, body_of, is_ask}
use Rattle.synod.proofs.PostsLemmas.{broadcast_next}
use Rattle.synod.proofs.posts.post_broadcast.Goals as goal

pub loop-weight-preserved : goal.loop-weight-preserved
loop-weight-preserved g c = record {
  to = omega arith;
  posts = broadcast_next c.loop-weight.posts.items c.post_to_node.new.posts.items (is_ask c.args.message.now) c.args.me c.loop-weight.to c.loop-weight._weight-index (body_of c.args.message.now) c.as_slice-node_weights.result.now c.in_ok-post_to_node.ensures c.loop-weight.invariant.to c.loop-weight-test.true
      ∙ c.loop-weight.invariant.posts;
}
