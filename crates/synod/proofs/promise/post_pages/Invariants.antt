use Rattle.synod.proofs.Words.{◌≡◌, ◌+◌, length, promise_posts_from}
use Rattle.synod.proofs.promise.post_pages.Given as goal

-- a packet was posted for each page so far
abbrev pub invariant-loop-reports : goal.invariant-loop-reports
invariant-loop-reports g l = record {
  can_next : (goal.iterator-loop-reports g).can_next l.reports-iterator;
  is_finite : (goal.iterator-loop-reports g).is_finite l.reports-iterator;
  number : l.number ≡ 1 + length l.yielded;
  posted : l.posts.items ≡ promise_posts_from l.me l.to l.ballot l.count 1 l.yielded;
}
