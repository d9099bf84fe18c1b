use Rattle.std.proofs.Common.{[], ◌∷◌, refl, arith, length-append}
use Rattle.synod.proofs.ReportPages.{promise_posts_from-push}
use Rattle.synod.proofs.promise.post_pages.Goals as goal

pub loop-reports-preserved : goal.loop-reports-preserved
loop-reports-preserved g c =
    let so_far = c.loop-reports.invariant.number in
    let one_more = length-append c.loop-reports.yielded (c.in-Some.reports ∷ []) in
    record {
      can_next = tt;
      is_finite = tt;
      number = omega (arith, so_far, one_more);
      posted = rw (c.in_ok-push.ensures.items, c.loop-reports.invariant.posted, so_far, promise_posts_from-push) refl;
    }
