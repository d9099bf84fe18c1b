use Rattle.synod.proofs.Words.{◌≡◌, ◌+◌, ◌-◌, ◌++◌, length, accept_posts, proposed_values, reports_of_pages}
use Rattle.synod.proofs.leading.post_reported_values.Given as goal

abbrev pub invariant-loop-highest : goal.invariant-loop-highest
invariant-loop-highest g l = record {
  slot : l.slot ≡ l.first + l.highest-index;
  posted : l.posts.items ++ accept_posts l.me l.weights l.ballot l.slot (proposed_values (reports_of_pages l.pages) l.slot (length l.highest-items - l.highest-index))
      ≡ l.fn.posts.items ++ accept_posts l.me l.weights l.ballot l.first (proposed_values (reports_of_pages l.pages) l.first (length l.highest-items));
}
