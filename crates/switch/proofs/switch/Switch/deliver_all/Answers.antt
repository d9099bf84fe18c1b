use Rattle.switch.proofs.Words.{List, ℕ, length, take, ap, sym, ◌∙◌, subst, arith, packets_after, world_of, take_all, take_more, SwitchView, DeliversInTurn}
use Rattle.switch.proofs.GroupLemmas.{in_turn-push}
use Rattle.switch.proofs.switch.Switch.deliver_all.Goals as goal

pub loop-number-preserved : goal.loop-number-preserved
loop-number-preserved g c = (
  subst (λ (ns : List ℕ). DeliversInTurn g.V.Value.bytes c.args.k c.begin_group.new.self c.deliver_or_leave.new.self ns) (sym (take_more c.args.packets.now c.loop-number.number-index 0 c.loop-number-test.true))
      (in_turn-push g.V.Value.bytes c.args.k c.begin_group.new.self c.loop-number.self c.deliver_or_leave.new.self (take c.loop-number.number-index c.args.packets.now) _ c.loop-number.invariant.0 c.deliver_or_leave.ensures.delivers),
  λ k entries was. c.deliver_or_leave.ensures.logs k entries (c.loop-number.invariant.1 k entries was),
)

pub returns-clause-delivers : goal.returns-clause-delivers
returns-clause-delivers g c = record {
  between = c.loop-number.self;
  delivers = subst (λ (s : SwitchView g.row.V.Denot). DeliversInTurn g.V.Value.bytes c.args.k s c.loop-number.self c.args.packets.now) c.begin_group.ensures.group
      (subst (λ (ns : List ℕ). DeliversInTurn g.V.Value.bytes c.args.k c.begin_group.new.self c.loop-number.self ns) (take_all _ _ (omega (arith, c.loop-number-test.false))) c.loop-number.invariant.0);
  commits = c.end_group-is_committed.ensures.commits;
  no_node = c.end_group-is_committed.ensures.no_node;
  counted = c.posted.ensures ∙ ap (λ (s : SwitchView g.row.V.Denot). length (packets_after (world_of g.V.Value.bytes s))) c.self.view_is;
}

pub returns-clause-logs : goal.returns-clause-logs
returns-clause-logs g c = λ k entries was. c.end_group-is_committed.ensures.logs k entries (c.loop-number.invariant.1 k entries (c.begin_group.ensures.logs k entries was))
