use Rattle.synod.proofs.Words.{◌∙◌, ap, sym, subst, arith, length, List, Option, AllByRecursion, SlotReport, StepResult, Core, assembled, entries_of, IsNode, IsReceivedPage}
use Rattle.synod.proofs.PageInvariant.{reports_with_page}
use Rattle.synod.proofs.LeadLemmas.{lead_step}
use Rattle.synod.proofs.node.NodeCore.stage_lead.Goals as goal

pub lead_posts-requires-clause-reports : goal.lead_posts-requires-clause-reports
lead_posts-requires-clause-reports g c =
    reports_with_page (entries_of c.pages.result.now) c.args.node c.args.page c.args.reports.now c.args.heard.now
    (subst (λ (ps : List (List (Option (List (SlotReport g.row.V.Denot))))). AllByRecursion (AllByRecursion IsReceivedPage) ps) (sym c.pages.ensures.pages) c.self.invariant.pages) c.requires.each

pub stage_proposer_update-requires-clause-node : goal.stage_proposer_update-requires-clause-node
stage_proposer_update-requires-clause-node g c =
    subst (λ (step : StepResult g.row.V.Denot). IsNode step.node)
    (lead_step (assembled c.self.inside.me c.self.inside.weights c.self.inside.kept_part.kept c.self.inside.proposer.state c.self.inside.learner.state) c.args.self.now.node (ap (λ (core : Core g.row.V.Denot). core.node) c.self.view_is) (entries_of c.pages.result.now) c.pages.ensures.pages c.waiting-waiting.result.now c.waiting-waiting.ensures c.args.ballot c.args.first c.args.node c.args.page c.args.reports.now c.args.heard.now c.in_ok-lead.lead.posts.items c.in_ok-lead.lead.next c.in_ok-lead.lead.proposed c.in_ok-lead.ensures)
    c.requires.preserves.node

pub stage_proposer_update-requires-clause-capacity : goal.stage_proposer_update-requires-clause-capacity
stage_proposer_update-requires-clause-capacity g c =
    let listed = ap (λ (vs : List g.row.V.Denot). length vs) c.waiting-waiting.ensures in
    let seen = ap (λ (core : Core g.row.V.Denot). length core.node.waiting) c.self.view_is in
    omega (arith, listed, seen, c.in_ok-lead.ensures.within)

pub returns : goal.returns
returns g c = (c.stage_proposer_update.ensures.0, c.stage_proposer_update.ensures.1 ∙ sym (lead_step (assembled c.self.inside.me c.self.inside.weights c.self.inside.kept_part.kept c.self.inside.proposer.state c.self.inside.learner.state) c.args.self.now.node (ap (λ (core : Core g.row.V.Denot). core.node) c.self.view_is) (entries_of c.pages.result.now) c.pages.ensures.pages c.waiting-waiting.result.now c.waiting-waiting.ensures c.args.ballot c.args.first c.args.node c.args.page c.args.reports.now c.args.heard.now c.in_ok-lead.lead.posts.items c.in_ok-lead.lead.next c.in_ok-lead.lead.proposed c.in_ok-lead.ensures))
