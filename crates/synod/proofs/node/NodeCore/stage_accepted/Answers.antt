use Rattle.synod.proofs.Words.{◌≡◌, ◌∙◌, refl, ap, sym, None, entry_at, Core, assembled, core_of, on_accepted, asks_below}
use Rattle.synod.proofs.AcceptedLemmas.{none_is, choose_step, ready_for}
use Rattle.synod.proofs.RoomLemmas.{learner_room}
use Rattle.synod.proofs.node.NodeCore.stage_accepted.Goals as goal

pub returns-in_ok-copy_value-clause-ready : goal.returns-in_ok-copy_value-clause-ready
returns-in_ok-copy_value-clause-ready g c =
    let same = ap (λ (core : Core g.row.V.Denot). core.node) c.self.view_is in
    let none : entry_at c.self.inside.learner.state.learned c.args.slot ≡ None = none_is c.learned.result (entry_at c.self.inside.learner.state.learned c.args.slot) _ c.is_some.result c.learned.ensures c.is_some.ensures c.if-is_some.false in
    ready_for (core_of c.self.inside.me c.self.inside.weights c.self.inside.kept_part c.self.inside.proposer c.reserve.new.self) (on_accepted c.args.self.now.node c.args.from c.args.ballot c.args.slot c.args.value.now) _ c.stage_chosen.result (choose_step (assembled c.self.inside.me c.self.inside.weights c.self.inside.kept_part.kept c.self.inside.proposer.state c.self.inside.learner.state) c.args.self.now.node same c.reserve.new.self.state c.reserve.ensures.state c.args.from c.args.ballot c.args.slot c.args.value.now none c.in_ok-copy_value.field-0 (sym c.completes_quorum.ensures ∙ c.if-completes_quorum.true) c.in_ok-copy_value.ensures c.first_gap_with-gap.result c.first_gap_with-gap.ensures.front (asks_below (assembled c.self.inside.me c.self.inside.weights c.self.inside.kept_part.kept c.self.inside.proposer.state c.self.inside.learner.state) c.args.slot c.first_gap_with-gap.result) refl) c.stage_chosen.ensures

pub returns-in_ok-copy_value-clause-capacity : goal.returns-in_ok-copy_value-clause-capacity
returns-in_ok-copy_value-clause-capacity g c = learner_room c.self.inside.me c.self.inside.weights c.self.inside.kept_part c.self.inside.proposer c.self.inside.learner c.args.self.now c.self.view_is c.reserve.new.self c.reserve.ensures.tallies_capacity c.reserve.ensures.other_tallies_capacity c.reserve.ensures.learned_capacity
