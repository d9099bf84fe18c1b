use Rattle.switch.proofs.Words.{Option, Some, refl, ap, sym, subst, ◌∙◌, arith, Event, StagedEvent, IsTaken}
use Rattle.switch.proofs.SwitchLemmas.{still_switch}
use Rattle.switch.proofs.CallLemmas.{still_view, ready_fails}
use Rattle.switch.proofs.DispatchLemmas.{in_stores, call_failed, call_played}
use Rattle.switch.proofs.TieLemmas.{answers, up_err}
use Rattle.switch.proofs.switch.Switch.step.Goals as goal

pub invariant_of-self : goal.invariant_of-self
invariant_of-self g c = still_switch g.V.Value.bytes _ _ c.self.invariant c.stage.new.self c.stage.ensures.only_capacity

pub returns-in_err-staged : goal.returns-in_err-staged
returns-in_err-staged g c = up_err g.V.Value.bytes _ _ _ _ (answers c.from_residual.result c.in_err-staged.field-0.0 c.from_residual.ensures.1) c.args.event
    (ready_fails g.V.Value.bytes _ _ c.self.invariant _ c.self.view_is c.args.event c.in_err-staged.field-0.0 c.stage.result c.in_err-staged.was _ (still_view _ _ c.self.inside.stores.items c.stage.ensures.only_capacity) c.stage.ensures.refused c.stage.ensures.only_memory)

pub index_mut-requires : goal.index_mut-requires
index_mut-requires g c =
    let low = in_stores g.V.Value.bytes _ _ c.stage.ensures.only_capacity c.self.inside.stores.items c.self.invariant _ c.self.view_is c.in_ok-staged.staged c.in_ok-staged.ensures.staged c.at-at.result c.at-at.ensures in
    omega (arith, low, c.self.inside.stores.ok.0)

pub invariant_of-self-in_err-staged-2 : goal.invariant_of-self-in_err-staged-2
invariant_of-self-in_err-staged-2 g c = (call_failed g.V.Value.bytes _ _ c.stage.ensures.only_capacity c.self.inside.stores.items c.self.invariant _ c.self.view_is c.in_ok-staged.staged c.in_ok-staged.ensures.staged c.at-at.result c.at-at.ensures c.args.event c.in_ok-staged.ensures.event c.in_ok-staged.ensures.few c.index_mut.result.now c.index_mut.ensures.value c.requires.up
    (Some c.in_ok-staged.staged) _ refl refl (ap (λ (e : Event g.row.V.Denot). let o : Option (Event g.row.V.Denot) = Some e in o) c.in_ok-staged.ensures.event ∙ sym c.requires.pending) (refl, c.in_ok-staged.ensures.staged) c.store.new.self c.in_err-staged-2.ensures.failed).0

pub returns-in_err-staged-2 : goal.returns-in_err-staged-2
returns-in_err-staged-2 g c = up_err g.V.Value.bytes _ _ _ _ (answers c.from_residual-in_err-staged-2.result _ c.from_residual-in_err-staged-2.ensures.1) c.args.event
    ((call_failed g.V.Value.bytes _ _ c.stage.ensures.only_capacity c.self.inside.stores.items c.self.invariant _ c.self.view_is c.in_ok-staged.staged c.in_ok-staged.ensures.staged c.at-at.result c.at-at.ensures c.args.event c.in_ok-staged.ensures.event c.in_ok-staged.ensures.few c.index_mut.result.now c.index_mut.ensures.value c.requires.up
    (Some c.in_ok-staged.staged) _ refl refl (ap (λ (e : Event g.row.V.Denot). let o : Option (Event g.row.V.Denot) = Some e in o) c.in_ok-staged.ensures.event ∙ sym c.requires.pending) (refl, c.in_ok-staged.ensures.staged) c.store.new.self c.in_err-staged-2.ensures.failed).1)

pub invariant_of-self-2 : goal.invariant_of-self-2
invariant_of-self-2 g c = (call_played g.V.Value.bytes _ _ c.stage.ensures.only_capacity c.self.inside.stores.items c.self.invariant _ c.self.view_is c.in_ok-staged.staged c.in_ok-staged.ensures.staged c.at-at.result c.at-at.ensures c.args.event c.in_ok-staged.ensures.event c.in_ok-staged.ensures.few c.index_mut.result.now c.index_mut.ensures.value c.requires.up
    c.store.new.self c.in_ok-staged-2.ensures.stored c.commit.new.self (subst (λ (x : StagedEvent g.row.V.Denot). IsTaken c.stage.new.self c.commit.new.self x) c.in_ok-staged-2.ensures.staged c.commit.ensures.taken) c.commit.result c.commit.ensures.posted).0

pub returns : goal.returns
returns g c = ((call_played g.V.Value.bytes _ _ c.stage.ensures.only_capacity c.self.inside.stores.items c.self.invariant _ c.self.view_is c.in_ok-staged.staged c.in_ok-staged.ensures.staged c.at-at.result c.at-at.ensures c.args.event c.in_ok-staged.ensures.event c.in_ok-staged.ensures.few c.index_mut.result.now c.index_mut.ensures.value c.requires.up
    c.store.new.self c.in_ok-staged-2.ensures.stored c.commit.new.self (subst (λ (x : StagedEvent g.row.V.Denot). IsTaken c.stage.new.self c.commit.new.self x) c.in_ok-staged-2.ensures.staged c.commit.ensures.taken) c.commit.result c.commit.ensures.posted).1)
