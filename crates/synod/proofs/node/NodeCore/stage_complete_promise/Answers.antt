use Rattle.synod.proofs.Words.{◌≡◌, ◌∙◌, ℕ, arith, ap, sym, subst, None, List, Option, SlotReport, StepResult, page_of, Core, assembled, entries_of, IsNode, KeepsCapacities}
use Rattle.synod.proofs.AcceptedLemmas.{none_is}
use Rattle.synod.proofs.GatheredPages.{hear_step}
use Rattle.synod.proofs.RoomLemmas.{proposer_room}
use Rattle.synod.proofs.node.NodeCore.stage_complete_promise.Goals as goal

pub stage_proposer_update-requires-2-clause-node : goal.stage_proposer_update-requires-2-clause-node
stage_proposer_update-requires-2-clause-node g c =
    let same = ap (λ (core : Core g.row.V.Denot). core.node) c.self.view_is in
    let none : page_of c.self.inside.proposer.state.pages c.args.heard.node c.args.page ≡ None =
    ap (λ (ps : List (List (Option (List (SlotReport g.row.V.Denot))))). page_of ps c.args.heard.node c.args.page) (sym c.pages.ensures.pages)
    ∙ none_is c.get.result (page_of (entries_of c.pages.result.now) c.args.heard.node c.args.page) _ c.is_some.result c.get.ensures c.is_some.ensures c.if-is_some.false in
    subst (λ (step : StepResult g.row.V.Denot). IsNode step.node)
    (hear_step (assembled c.self.inside.me c.self.inside.weights c.self.inside.kept_part.kept c.self.inside.proposer.state c.self.inside.learner.state) c.args.self.now.node same c.reserve_heard-2.new.self.state (c.reserve_heard-2.ensures.state ∙ c.reserve_page.ensures.state) c.args.page c.args.reports.now c.in_ok-reports.reports c.in_ok-reports.ensures c.new-2.result.items c.new-2.ensures.items c.args.heard none)
    c.requires.preserves.node

pub returns-clause-ready : goal.returns-clause-ready
returns-clause-ready g c =
    let same = ap (λ (core : Core g.row.V.Denot). core.node) c.self.view_is in
    let none : page_of c.self.inside.proposer.state.pages c.args.heard.node c.args.page ≡ None =
    ap (λ (ps : List (List (Option (List (SlotReport g.row.V.Denot))))). page_of ps c.args.heard.node c.args.page) (sym c.pages.ensures.pages)
    ∙ none_is c.get.result (page_of (entries_of c.pages.result.now) c.args.heard.node c.args.page) _ c.is_some.result c.get.ensures c.is_some.ensures c.if-is_some.false in
    (c.stage_proposer_update-2.ensures.0, c.stage_proposer_update-2.ensures.1 ∙ sym (hear_step (assembled c.self.inside.me c.self.inside.weights c.self.inside.kept_part.kept c.self.inside.proposer.state c.self.inside.learner.state) c.args.self.now.node same c.reserve_heard-2.new.self.state (c.reserve_heard-2.ensures.state ∙ c.reserve_page.ensures.state) c.args.page c.args.reports.now c.in_ok-reports.reports c.in_ok-reports.ensures c.new-2.result.items c.new-2.ensures.items c.args.heard none))

pub returns-clause-capacity : goal.returns-clause-capacity
returns-clause-capacity g c =
    let page = c.reserve_page.ensures in
    let hear = c.reserve_heard-2.ensures in
    proposer_room c.self.inside.me c.self.inside.weights c.self.inside.kept_part c.self.inside.proposer c.self.inside.learner c.args.self.now c.self.view_is c.reserve_heard-2.new.self
    (subst (λ (rooms : List ℕ). KeepsCapacities c.self.inside.proposer.page_capacities rooms) (sym hear.pages) page.pages)
    (let same = page.heard in let more = hear.heard in omega (arith, same, more)) (let one = page.waiting in let two = hear.waiting in omega (arith, one, two))
