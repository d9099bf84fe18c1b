use Rattle.net.proofs.Words.{List, length, get_or, Some, ap, sym, ◌∙◌, arith, Core, NetView}
use Rattle.net.proofs.NodeStatesLemmas.{state_shown}
use Rattle.net.proofs.HistoryLemmas.{count_shown}
use Rattle.net.proofs.net.Net.state.Goals as goal

pub returns-in-Some-clause-state : goal.returns-in-Some-clause-state
returns-in-Some-clause-state g c =
    let count = ap (λ (cores : List (Core g.row.V.Denot)). length cores) c.deref.ensures.value in
    let at = c.in-Some.ensures.lookup.1 ∙ ap (λ (cores : List (Core g.row.V.Denot)). get_or cores c.args.k c.in-Some.node.now) c.deref.ensures.value in
    let shown = state_shown g.V.Value.bytes _ _ _ _ c.self.invariant (ap (λ (n : NetView g.row.V.Denot). n.history) c.self.view_is) c.args.k c.in-Some.node.now (omega (arith, count, c.in-Some.ensures.lookup.3.0)) at in
    shown ∙ ap Some (sym c.state.ensures)

pub returns-in-Some-clause-no_node : goal.returns-in-Some-clause-no_node
returns-in-Some-clause-no_node g c = λ past.
    let count = ap (λ (cores : List (Core g.row.V.Denot)). length cores) c.deref.ensures.value in
    let all = count_shown g.V.Value.bytes _ _ _ _ c.self.invariant (ap (λ (n : NetView g.row.V.Denot). n.history) c.self.view_is) in
    absurd (omega (arith, past, all, count, c.in-Some.ensures.lookup.3.0))

pub returns-in-None-clause-node : goal.returns-in-None-clause-node
returns-in-None-clause-node g c = λ there.
    let count = ap (λ (cores : List (Core g.row.V.Denot)). length cores) c.deref.ensures.value in
    let all = count_shown g.V.Value.bytes _ _ _ _ c.self.invariant (ap (λ (n : NetView g.row.V.Denot). n.history) c.self.view_is) in
    absurd (omega (arith, there, all, count, c.in-None.ensures.lookup.3))
