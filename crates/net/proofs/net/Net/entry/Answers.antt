use Rattle.net.proofs.Words.{◌≡◌, List, Option, Some, None, length, get_or, slice_get, ap, sym, subst, ◌∙◌, arith, MatchOption, Bor, Core, NetView}
use Rattle.net.proofs.HistoryLemmas.{count_shown, log_shown}
use Rattle.net.proofs.net.Net.entry.Goals as goal

pub returns-in-Some-clause-entry : goal.returns-in-Some-clause-entry
returns-in-Some-clause-entry g c =
    let count = ap (λ (cores : List (Core g.row.V.Denot)). length cores) c.deref.ensures.value in
    let at = c.in-Some.ensures.lookup.1 ∙ ap (λ (cores : List (Core g.row.V.Denot)). get_or cores c.args.k c.in-Some.node.now) c.deref.ensures.value in
    let shown = log_shown g.V.Value.bytes _ _ _ _ c.self.invariant (ap (λ (n : NetView g.row.V.Denot). n.history) c.self.view_is) c.args.k c.in-Some.node.now (omega (arith, count, c.in-Some.ensures.lookup.3.0)) at in
    subst (λ (log : List (Option g.row.V.Denot)). MatchOption c.entry.result (slice_get log c.args.slot ≡ None) (λ (entry : Bor (Option g.row.V.Denot)). slice_get log c.args.slot ≡ Some entry.now)) (sym shown) c.entry.ensures.entry

pub returns-in-Some-clause-no_node : goal.returns-in-Some-clause-no_node
returns-in-Some-clause-no_node g c = λ past.
    let count = ap (λ (cores : List (Core g.row.V.Denot)). length cores) c.deref.ensures.value in
    let all = count_shown g.V.Value.bytes _ _ _ _ c.self.invariant (ap (λ (n : NetView g.row.V.Denot). n.history) c.self.view_is) in
    absurd (omega (arith, past, all, count, c.in-Some.ensures.lookup.3.0))

pub returns-in-None-clause-node : goal.returns-in-None-clause-node
returns-in-None-clause-node g c = λ there.
    let count = ap (λ (cores : List (Core g.row.V.Denot)). length cores) c.deref.ensures.value in
    let all = count_shown g.V.Value.bytes _ _ _ _ c.self.invariant (ap (λ (n : NetView g.row.V.Denot). n.history) c.self.view_is) in
    absurd (omega (arith, there, all, count, c.in-None.ensures.lookup.3))
