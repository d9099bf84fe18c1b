use Rattle.net.proofs.Words.{◌≡◌, Err, length, ap, refl, sym, subst, arith, IfErr, OnOk, StepFault, EventsSpent, Memory, World, StagedEvent, NetView}
use Rattle.std.specs.Prelude.{Result}
use Rattle.net.proofs.HistoryLemmas.{events_within, spent_met}
use Rattle.net.proofs.EventsStaged.{staged_still}
use Rattle.net.proofs.StagedTaken.{result_staged}
use Rattle.net.proofs.StepsStaged.{not_moved, still_more}
use Rattle.net.proofs.net.Net.stage.Goals as goal

pub stage_at_node-requires : goal.stage_at_node-requires
stage_at_node-requires g c =
    let low = events_within g.V.Value.bytes _ _ _ _ c.self.invariant (ap (λ (n : NetView g.row.V.Denot). n.history) c.self.view_is) in
    let count = ap (λ (n : NetView g.row.V.Denot). length n.history.events) c.self.view_is in
    let limit = ap (λ (n : NetView g.row.V.Denot). n.history.event_limit) c.self.view_is in
    omega (arith, low, count, limit, c.len.ensures, c.if-len-self.false)

pub returns-then-len-self-clause-refused : goal.returns-then-len-self-clause-refused
returns-then-len-self-clause-refused g c =
    let met = spent_met g.V.Value.bytes _ _ _ _ c.self.invariant (ap (λ (n : NetView g.row.V.Denot). n.history) c.self.view_is) c.args.event (omega (arith, c.len.ensures, c.if-len-self.true)) in
    subst (λ (r : Result (World g.row.V.Denot) StepFault). IfErr r (λ fault. let after_step_or_fault : Result (StagedEvent g.row.V.Denot) StepFault = Err EventsSpent in after_step_or_fault ≡ Err fault)) (sym met) refl

pub returns-then-len-self-clause-only_memory : goal.returns-then-len-self-clause-only_memory
returns-then-len-self-clause-only_memory g c =
    let met = spent_met g.V.Value.bytes _ _ _ _ c.self.invariant (ap (λ (n : NetView g.row.V.Denot). n.history) c.self.view_is) c.args.event (omega (arith, c.len.ensures, c.if-len-self.true)) in
    subst (λ (r : Result (World g.row.V.Denot) StepFault). OnOk r (EventsSpent ≡ Memory)) (sym met) tt

pub returns-then-len-self-clause-only_capacity : goal.returns-then-len-self-clause-only_capacity
returns-then-len-self-clause-only_capacity g c = not_moved _ _ refl

pub returns-in_err-reserve-clause-only_capacity : goal.returns-in_err-reserve-clause-only_capacity
returns-in_err-reserve-clause-only_capacity g c = still_more _ _ _ c.in_ok-staged.ensures.only_capacity c.reserve.ensures.only_capacity

pub returns-clause-staged : goal.returns-clause-staged
returns-clause-staged g c = staged_still g.V.Value.bytes _ _ c.in_ok-staged.staged c.reserve.ensures.only_capacity (result_staged g.V.Value.bytes _ _ _ _ c.in_ok-staged.ensures.staged)

pub returns-clause-only_capacity : goal.returns-clause-only_capacity
returns-clause-only_capacity g c = still_more _ _ _ c.in_ok-staged.ensures.only_capacity c.reserve.ensures.only_capacity

pub returns-clause-few : goal.returns-clause-few
returns-clause-few g c =
    let low = events_within g.V.Value.bytes _ _ _ _ c.self.invariant (ap (λ (n : NetView g.row.V.Denot). n.history) c.self.view_is) in
    let count = ap (λ (n : NetView g.row.V.Denot). length n.history.events) c.self.view_is in
    let limit = ap (λ (n : NetView g.row.V.Denot). n.history.event_limit) c.self.view_is in
    omega (arith, low, count, limit, c.len.ensures, c.if-len-self.false)
