use Rattle.synod.proofs.Words.{◌≡◌, ◌++◌, drop, body_of, is_ask, to_nodes_from, broadcast_posts}
use Rattle.synod.proofs.posts.post_broadcast.Given as goal

abbrev pub invariant-loop-weight : goal.invariant-loop-weight
invariant-loop-weight g l = record {
  to : l.to ≡ l._weight-index;
  posts : l.posts.items ++ to_nodes_from (is_ask l.message) l.fn.me (body_of l.message) l._weight-index (drop l._weight-index l.node_weights) ≡ l.initial.posts.items ++ broadcast_posts l.fn.me l.node_weights l.message;
}
