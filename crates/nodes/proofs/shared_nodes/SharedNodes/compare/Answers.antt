use Rattle.std.proofs.Common.{ap, sym, ◌∙◌, subst}
use Rattle.nodes.specs.Words.{Carried, Cell, SwitchView}
use Rattle.nodes.specs.Moments.{IsSwitchAt}
use Rattle.nodes.specs.Shared.{IsNodeCell, SharedCellView, SharedSwitchView}
use Rattle.nodes.proofs.shared_nodes.SharedNodes.compare.Goals as goal

pub returns-then-eq-clause-compared : goal.returns-then-eq-clause-compared
returns-then-eq-clause-compared g c = record {
  switch = c.switch-switch.result.now;
  is_switch = subst (λ (s : SwitchView Carried). IsSwitchAt c.are_at-are_now.new.front s)
      (sym (c.switch-switch.ensures.same ∙ ap (λ (v : SharedSwitchView). v.switch) (c.deref-6.ensures ∙ sym c.deref-3.ensures))) (c.are_at-are_now.ensures.switch c.if-are_now.true);
  one = c.cell-one_cell.result.now;
  is_one = subst (λ (x : Cell). IsNodeCell c.are_at-are_now.new.front c.args.low x)
      (sym (c.cell-one_cell.ensures ∙ ap (λ (v : SharedCellView). v.cell) (c.deref-4.ensures ∙ sym c.deref.ensures))) (c.are_at-are_now.ensures.one c.if-are_now.true);
  other = c.cell-other_cell.result.now;
  is_other = subst (λ (x : Cell). IsNodeCell c.are_at-are_now.new.front c.args.high x)
      (sym (c.cell-other_cell.ensures ∙ ap (λ (v : SharedCellView). v.cell) (c.deref-5.ensures ∙ sym c.deref-2.ensures))) (c.are_at-are_now.ensures.other c.if-are_now.true);
  compares = c.compare_on.ensures;
}
