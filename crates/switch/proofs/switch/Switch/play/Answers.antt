use Rattle.switch.proofs.Words.{ℕ, false, Result, Err, subst, sym, ◌∙◌, ForOk, Event, StepFault, Down, IsEffectAtDownNode, IsEffectUnlessDown, world_of}
use Rattle.switch.proofs.DispatchLemmas.{no_restart, own_restart, refused_down, test_at}
use Rattle.switch.proofs.TieLemmas.{found_at, plays_down, plays_up}
use Rattle.switch.proofs.switch.Switch.play.Goals as goal

pub returns-in-Restart : goal.returns-in-Restart
returns-in-Restart g c =
    let p = plays_down g.V.Value.bytes _ _ c.self.invariant _ c.self.view_is c.args.event c.node_of.result c.node_of.ensures (sym c.is_down-is_down.ensures ∙ c.if-is_down.true) c.restart_down.new.self c.restart_down.result (own_restart g.V.Value.bytes c.args.self.now c.restart_down.new.self c.restart_down.result c.args.event c.in-Restart.k c.in-Restart.is c.restart_down.ensures.unloaded)
    (subst (λ (e : Event g.row.V.Denot). ForOk (world_of g.V.Value.bytes c.args.self.now) (λ x. IsEffectAtDownNode g.V.Value.bytes x c.args.self.now c.restart_down.new.self e c.restart_down.result)) (sym c.in-Restart.is) c.restart_down.ensures.effect) in
    record { plays = p.0; logs = p.1 }

pub returns-in-Restart-2 : goal.returns-in-Restart-2
returns-in-Restart-2 g c =
    let p = plays_up g.V.Value.bytes _ _ c.self.invariant _ c.self.view_is c.args.event c.node_of.result c.node_of.ensures (sym c.is_down-is_down.ensures ∙ c.if-is_down.false) c.restart_up.new.self c.restart_up.result
    (subst (λ (e : Event g.row.V.Denot). ForOk (world_of g.V.Value.bytes c.args.self.now) (λ x. IsEffectUnlessDown g.V.Value.bytes x c.args.self.now c.restart_up.new.self e c.restart_up.result)) (sym c.in-Restart-2.is) c.restart_up.ensures) in
    record { plays = p.0; logs = p.1 }

pub returns-in_default : goal.returns-in_default
returns-in_default g c =
    let p = plays_down g.V.Value.bytes _ _ c.self.invariant _ c.self.view_is c.args.event c.node_of.result c.node_of.ensures (sym c.is_down-is_down.ensures ∙ c.if-is_down-2.true) c.args.self.now (let r : Result ℕ StepFault = Err Down in r) (λ k is yes. absurd (c.in_default.not-Restart k is))
    (refused_down g.V.Value.bytes c.args.self.now c.args.event (no_restart c.args.event c.in_default.not-Restart)) in
    record { plays = p.0; logs = p.1 }

pub step-requires : goal.step-requires
step-requires g c = record {
  pending = no_restart c.args.event c.in_default-2.not-Restart;
  up = test_at g.V.Value.bytes c.args.self.now c.args.event c.node_of.result (found_at g.V.Value.bytes _ _ c.self.invariant _ c.self.view_is c.args.event c.node_of.result c.node_of.ensures) false (sym c.is_down-is_down.ensures ∙ c.if-is_down-2.false);
}

pub returns : goal.returns
returns g c =
    let p = plays_up g.V.Value.bytes _ _ c.self.invariant _ c.self.view_is c.args.event c.node_of.result c.node_of.ensures (sym c.is_down-is_down.ensures ∙ c.if-is_down-2.false) c.step.new.self c.step.result c.step.ensures in
    record { plays = p.0; logs = p.1 }
