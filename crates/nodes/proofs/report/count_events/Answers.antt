use Rattle.nodes.proofs.Words.{◌≡◌, List, take, ap, sym, ◌∙◌, arith, take_all, Event, Carried, event_counts}
use Rattle.nodes.proofs.ReportLemmas.{no_sum, event_counts-none, counts_more, report_of}
use Rattle.nodes.proofs.report.count_events.Goals as goal

pub loop-event-init : goal.loop-event-init
loop-event-init g c = record {
  total = no_sum c.args.handled.items c.args.node_count c.requires;
  counts = λ w is. c.requires ∙ sym (event_counts-none w 0 c.args.node_count);
  few = omega arith;
}

pub loop-event-preserved : goal.loop-event-preserved
loop-event-preserved g c = record {
  total = omega (arith, c.loop-event.invariant.total, c.add_one-events.ensures.total);
  counts = λ w is. counts_more w c.args.node_count c.history-history.result.now c.loop-event.event-index c.event-item.result c.node_of.result c.loop-event.handled.items c.add_one-events.new.counts.items
      c.event-item.is c.loop-event-test.true (c.node_of.ensures.node w is) (c.loop-event.invariant.counts w is) c.add_one-events.ensures.counts;
  few = omega (arith, c.loop-event.invariant.few, c.add_one-events.ensures.few);
}

pub returns : goal.returns
returns g c =
    let all : take c.loop-event.event-index c.history-history.result.now ≡ c.history-history.result.now = take_all _ _ (omega (arith, c.loop-event-test.false)) in
    report_of c.args.switch.now c.args.node_count c.loop-event.handled.items c.history-history.ensures.history_taken
    (λ w is. c.loop-event.invariant.counts w is ∙ ap (λ (es : List (Event Carried)). event_counts w 0 c.args.node_count es) (all ∙ c.history-history.ensures.history))
