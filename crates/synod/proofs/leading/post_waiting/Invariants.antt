use Rattle.synod.proofs.Words.{◌≡◌, ◌+◌, ◌++◌, drop, accept_posts, as_entries}
use Rattle.synod.proofs.leading.post_waiting.Given as goal

abbrev pub invariant-loop-value : goal.invariant-loop-value
invariant-loop-value g l = record {
  slot : l.slot ≡ l.top + l.value-index;
  posted : l.posts.items ++ accept_posts l.me l.weights l.ballot l.slot (as_entries (drop l.value-index l.waiting))
      ≡ l.fn.posts.items ++ accept_posts l.me l.weights l.ballot l.top (as_entries l.waiting);
}
