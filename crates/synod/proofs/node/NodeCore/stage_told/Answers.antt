use Rattle.synod.proofs.Words.{◌≡◌, ap, subst, None, entry_at, StepResult, Core, assembled, core_of, IsNode, on_told}
use Rattle.synod.proofs.AcceptedLemmas.{none_is, told_step, ready_for}
use Rattle.synod.proofs.RoomLemmas.{learner_room}
use Rattle.synod.proofs.node.NodeCore.stage_told.Goals as goal

pub stage_told_value-requires-clause-node : goal.stage_told_value-requires-clause-node
stage_told_value-requires-clause-node g c =
    let same = ap (λ (core : Core g.row.V.Denot). core.node) c.self.view_is in
    let none : entry_at c.self.inside.learner.state.learned c.args.slot ≡ None = none_is c.learned.result (entry_at c.self.inside.learner.state.learned c.args.slot) _ c.is_some.result c.learned.ensures c.is_some.ensures c.if-is_some.false in
    subst (λ (step : StepResult g.row.V.Denot). IsNode step.node) (told_step (assembled c.self.inside.me c.self.inside.weights c.self.inside.kept_part.kept c.self.inside.proposer.state c.self.inside.learner.state) c.args.self.now.node same c.reserve.new.self.state c.reserve.ensures.state c.args.from c.args.slot c.args.value.now none c.in_ok-value.value c.in_ok-value.ensures c.first_gap_with-gap.result c.first_gap_with-gap.ensures.front) c.requires.preserves.node

pub returns-clause-ready : goal.returns-clause-ready
returns-clause-ready g c =
    let same = ap (λ (core : Core g.row.V.Denot). core.node) c.self.view_is in
    let none : entry_at c.self.inside.learner.state.learned c.args.slot ≡ None = none_is c.learned.result (entry_at c.self.inside.learner.state.learned c.args.slot) _ c.is_some.result c.learned.ensures c.is_some.ensures c.if-is_some.false in
    ready_for (core_of c.self.inside.me c.self.inside.weights c.self.inside.kept_part c.self.inside.proposer c.reserve.new.self) (on_told c.args.self.now.node c.args.from c.args.slot c.args.value.now) _ c.stage_told_value.result (told_step (assembled c.self.inside.me c.self.inside.weights c.self.inside.kept_part.kept c.self.inside.proposer.state c.self.inside.learner.state) c.args.self.now.node same c.reserve.new.self.state c.reserve.ensures.state c.args.from c.args.slot c.args.value.now none c.in_ok-value.value c.in_ok-value.ensures c.first_gap_with-gap.result c.first_gap_with-gap.ensures.front) c.stage_told_value.ensures

pub returns-clause-capacity : goal.returns-clause-capacity
returns-clause-capacity g c = learner_room c.self.inside.me c.self.inside.weights c.self.inside.kept_part c.self.inside.proposer c.self.inside.learner c.args.self.now c.self.view_is c.reserve.new.self c.reserve.ensures.tallies_capacity c.reserve.ensures.other_tallies_capacity c.reserve.ensures.learned_capacity
