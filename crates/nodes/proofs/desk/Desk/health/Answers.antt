use Rattle.std.proofs.Common.{ap, sym, ◌∙◌, subst}
use Rattle.nodes.specs.Words.{Carried, SwitchView, IsPrefixOf}
use Rattle.nodes.specs.Moments.{IsSwitchAt}
use Rattle.nodes.specs.Shared.{SharedSwitchView}
use Rattle.nodes.specs.Desk.{DeskView}
use Rattle.nodes.proofs.QuestionsLemmas.{later_statuses}
use Rattle.nodes.proofs.desk.Desk.health.Goals as goal

pub returns-clause-health : goal.returns-clause-health
returns-clause-health g c = record {
  count = c.in_ok-nodes.ensures.count;
  statuses = later_statuses c.args.self.now.seen c.node_statuses.new.self.seen c.look.new.front 0 c.in_ok-nodes.nodes.items
      (subst (λ (v : DeskView). IsPrefixOf v.seen c.look.new.front) c.self.view_is c.look.ensures.seen) c.in_ok-nodes.ensures.statuses;
  switch = c.switch-switch.result.now;
  is_switch = subst (λ (s : SwitchView Carried). IsSwitchAt c.look.new.front s)
      (sym (c.switch-switch.ensures.same ∙ ap (λ (v : SharedSwitchView). v.switch) (c.deref-3.ensures ∙ sym c.deref-2.ensures))) (c.look.ensures.at c.if-not-look.false);
  taken = c.history.ensures.history_taken;
  events = cc;
  limit = c.event_limit.ensures;
}
