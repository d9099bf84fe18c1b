use Rattle.std.proofs.Common.{arith, refl}
use Rattle.places.proofs.DescriptionLemmas.{listed_none, listed_on, listed_all, listed_later, walk_describes}
use Rattle.places.proofs.description.descriptions.Goals as goal

pub loop-span-init : goal.loop-span-init
loop-span-init c = record { within = omega arith; listed = listed_none c.args.text.now _ c.new-list.ensures.items }

pub loop-span-preserved : goal.loop-span-preserved
loop-span-preserved c = record {
  within = c.in-Some.ensures.is_run.within;
  listed = listed_on c.args.text.now c.skip_runs.result c.loop-span.walk _ c.in-Some.span _ _ _
      (listed_later c.args.text.now c.loop-span.at c.skip_runs.result c.loop-span.walk _ c.loop-span.invariant.listed c.skip_runs.ensures.same)
      c.in-Some.ensures.run refl c.in_ok-push_description_if_begun.ensures c.state_after_run-walk.ensures;
}

pub returns : goal.returns
returns c = λ S reads.
    walk_describes c.args.text.now S c.loop-span.list.items reads
    (listed_all c.args.text.now c.skip_runs.result c.loop-span.walk c.loop-span.list.items
    (listed_later c.args.text.now c.loop-span.at c.skip_runs.result c.loop-span.walk _ c.loop-span.invariant.listed c.skip_runs.ensures.same) c.in_default.ensures.run)
