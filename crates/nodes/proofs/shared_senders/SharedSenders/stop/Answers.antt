use Rattle.std.proofs.Common.{◌≡◌, true, List, sym, ◌∙◌, subst}
use Rattle.nodes.specs.declared.moment.Moment.{Moment}
use Rattle.nodes.specs.Moments.{IsStoppedAt}
use Rattle.nodes.proofs.SharedLemmas.{may_end, ended_recorded}
use Rattle.nodes.proofs.shared_senders.SharedSenders.stop.Goals as goal

pub add-requires-clause-may : goal.add-requires-clause-may
add-requires-clause-may g c b = may_end c.self.inside.account c.args.front.now

pub invariant_of-self : goal.invariant_of-self
invariant_of-self g c = record {
  lock = c.add.ensures.lock ∙ c.self.invariant.lock;
  tie = λ b. ended_recorded c.self.inside.account c.add.new.self c.args.front.now c.add.new.front (c.add.ensures.recorded b);
}

pub returns-clause-stopped : goal.returns-clause-stopped
returns-clause-stopped g c t =
    let b : c.add.new.self.belongs ≡ true = sym c.add.ensures.belongs ∙ t in
    let r = c.add.ensures.recorded b in
    subst (λ (ms : List Moment). IsStoppedAt ms true) (sym r.seen) (ended_recorded c.self.inside.account c.add.new.self c.args.front.now c.add.new.front r)
