use Rattle.std.proofs.Common.{arith, refl}
use Rattle.proof_pages.proofs.WrappedLemmas.{wrapped_on, wrapped_end}
use Rattle.proof_pages.proofs.FrameLemmas.{on_ok}
use Rattle.proof_pages.proofs.wrapping.push_wrapped.Goals as goal

pub loop-span-init : goal.loop-span-init
loop-span-init c = record { within = omega arith; wrapped = refl }

pub loop-span-preserved : goal.loop-span-preserved
loop-span-preserved c = record {
  within = c.in-Some.ensures.is_run.within;
  wrapped = wrapped_on c.args.text.now c.loop-span.at c.loop-span.column _ c.in-Some.span _ _ _ _ _ c.loop-span.invariant.wrapped c.in-Some.ensures.run refl
      c.in_ok-push_separator.ensures c.in_ok-extend_from_slice.ensures.items c.column_after-column.ensures;
}

pub returns : goal.returns
returns c =
    on_ok c.push_line_feed.result (λ e. wrapped_end c.args.text.now c.loop-span.at c.loop-span.column _ _ _ c.loop-span.invariant.wrapped c.in_default.ensures.run e) c.push_line_feed.ensures
