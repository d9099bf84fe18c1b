use Rattle.std.proofs.Common.{not}
use Rattle.nodes.proofs.Words.{◌≡◌, Bool, true, false, arith, ap, sym, ◌∙◌}
use Rattle.nodes.proofs.SharedLemmas.{together_on, goes_in}
use Rattle.nodes.proofs.shared_switch.SharedSwitch.deliver_all.Goals as goal

pub record_switch-requires-clause-goes_on : goal.record_switch-requires-clause-goes_on
record_switch-requires-clause-goes_on g c b =
    goes_in c.self.inside.switch c.self.inside.account c.self.invariant c.deliver_all-delivered.new.self
    (together_on c.args.k c.self.inside.switch c.deliver_all-delivered.new.self c.args.packets.now c.deliver_all-delivered.result.posted c.deliver_all-delivered.result.is_committed c.deliver_all-delivered.ensures.delivers) b

pub returns-then-not-delivered : goal.returns-then-not-delivered
returns-then-not-delivered g c = rw (← c.self.view_is) (record {
  posted = c.deliver_all-delivered.result.posted;
  is_committed = c.deliver_all-delivered.result.is_committed;
  delivers = c.deliver_all-delivered.ensures.delivers;
  silent = λ is. omega (arith, c.new.ensures.len);
})

pub returns : goal.returns
returns g c = rw (← c.self.view_is) (record {
  posted = c.deliver_all-delivered.result.posted;
  is_committed = c.deliver_all-delivered.result.is_committed;
  delivers = c.deliver_all-delivered.ensures.delivers;
  silent = λ is. (let never : true ≡ false = ap (λ (b : Bool). not b) (sym is) ∙ c.if-not-delivered.false in cc);
})
