use Rattle.synod.proofs.Words.{◌≡◌, ◌∙◌, ap, sym, arith, length, false, List, Option, length-map, SlotsView, SlotReport, Heard, Core, is_heard}
use Rattle.synod.proofs.GatheredPages.{promise_of_none}
use Rattle.synod.proofs.node.NodeCore.stage_promise.Goals as goal

pub returns-then-from-node_count-clause-ready : goal.returns-then-from-node_count-clause-ready
returns-then-from-node_count-clause-ready g c =
    let role = ap (λ (core : Core g.row.V.Denot). core.node.role) (sym c.self.view_is) ∙ sym c.role.ensures ∙ c.in-Preparing.is in
    let maps = length-map c.pages.result.now (λ (m : SlotsView (List (SlotReport g.row.V.Denot))). m.entries) in
    let had = ap (λ (ps : List (List (Option (List (SlotReport g.row.V.Denot))))). length ps) c.pages.ensures.pages in
    let all = ap (λ (core : Core g.row.V.Denot). length core.node.pages) c.self.view_is in
    let heard : is_heard c.args.self.now.node.heard c.args.from ≡ false =
    ap (λ (core : Core g.row.V.Denot). is_heard core.node.heard c.args.from) (sym c.self.view_is)
    ∙ ap (λ (hs : List Heard). is_heard hs c.args.from) (sym c.heard.ensures) ∙ sym c.is_heard.ensures ∙ c.if-is_heard.false in (
      c.stage_nothing-then-from-node_count.ensures.0,
      c.stage_nothing-then-from-node_count.ensures.1
          ∙ sym (promise_of_none c.args.self.now.node c.in-Preparing.at c.in-Preparing.first role c.args.from c.args.ballot c.args.page c.args.count c.args.reports.now
          (omega (arith, maps, had, all, c.node_count.ensures, c.if-from-node_count.true)) (omega (arith, c.requires.page.first, c.requires.page.last)) (sym c.is_same.ensures ∙ c.if-not-is_same.false) heard),
    )
