use Rattle.std.proofs.Common.{◌∙◌, arith}
use Rattle.slots.proofs.PageLemmas.{one_more, none_more}
use Rattle.slots.proofs.page.pad_to.Goals as goal

pub returns-clause-items : goal.returns-clause-items
returns-clause-items g c = none_more c.loop-slots.slots.items c.args.count (omega (arith, c.loop-slots-test.false, c.len.ensures, c.loop-slots.slots.ok.0)) ∙ c.loop-slots.invariant.items

pub loop-slots-preserved : goal.loop-slots-preserved
loop-slots-preserved g c = record {
  items = one_more c.loop-slots.slots.items c.push_reserved.new.self.items c.args.count c.push_reserved.ensures.items (omega (arith, c.loop-slots-test.true, c.len.ensures, c.loop-slots.slots.ok.0)) ∙ c.loop-slots.invariant.items;
  capacity = c.push_reserved.ensures.capacity ∙ c.loop-slots.invariant.capacity;
}
