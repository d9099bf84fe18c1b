use Rattle.std.proofs.Common.{arith, refl}
use Rattle.markup.proofs.MarkupLemmas.{on_ok, run_on, run_end}
use Rattle.markup.proofs.description.push_description.Goals as goal

pub loop-span-init : goal.loop-span-init
loop-span-init g c = record { within = omega arith; written = refl }

pub loop-span-preserved : goal.loop-span-preserved
loop-span-preserved g c = record {
  within = c.in-Some.ensures.is_run.within;
  written = run_on (g.L.LabelPages.page_of c.args.labels.now) c.args.text.now c.loop-span.state _ c.loop-span.at c.in-Some.span _ _ _ c.loop-span.invariant.written c.in-Some.ensures.run
      c.in_ok-next.ensures.written c.in_ok-next.ensures.state;
}

pub returns : goal.returns
returns g c =
    on_ok c.push_end.result
    (λ e. run_end (g.L.LabelPages.page_of c.args.labels.now) c.args.text.now c.loop-span.state c.loop-span.at _ _ _ c.loop-span.invariant.written c.in_default.ensures.run e) c.push_end.ensures
