use Rattle.net.proofs.Words.{List, length, get_or, ap, sym, ◌∙◌, arith, Core, NetView}
use Rattle.net.proofs.HistoryLemmas.{count_shown, log_shown}
use Rattle.net.proofs.net.Net.log.Goals as goal

pub returns-in_ok-log-in-Some-clause-log : goal.returns-in_ok-log-in-Some-clause-log
returns-in_ok-log-in-Some-clause-log g c =
    let count = ap (λ (cores : List (Core g.row.V.Denot)). length cores) c.deref.ensures.value in
    let at = c.in-Some.ensures.lookup.1 ∙ ap (λ (cores : List (Core g.row.V.Denot)). get_or cores c.args.k c.in-Some.node.now) c.deref.ensures.value in
    c.in_ok-log-in-Some.ensures ∙ sym (log_shown g.V.Value.bytes _ _ _ _ c.self.invariant (ap (λ (n : NetView g.row.V.Denot). n.history) c.self.view_is) c.args.k c.in-Some.node.now (omega (arith, count, c.in-Some.ensures.lookup.3.0)) at)

pub returns-in_ok-log-in-Some-clause-no_node : goal.returns-in_ok-log-in-Some-clause-no_node
returns-in_ok-log-in-Some-clause-no_node g c = λ past.
    let count = ap (λ (cores : List (Core g.row.V.Denot)). length cores) c.deref.ensures.value in
    let all = count_shown g.V.Value.bytes _ _ _ _ c.self.invariant (ap (λ (n : NetView g.row.V.Denot). n.history) c.self.view_is) in
    absurd (omega (arith, past, all, count, c.in-Some.ensures.lookup.3.0))

pub returns-in_err-log-in-Some-clause-no_node : goal.returns-in_err-log-in-Some-clause-no_node
returns-in_err-log-in-Some-clause-no_node g c = λ past.
    let count = ap (λ (cores : List (Core g.row.V.Denot)). length cores) c.deref.ensures.value in
    let all = count_shown g.V.Value.bytes _ _ _ _ c.self.invariant (ap (λ (n : NetView g.row.V.Denot). n.history) c.self.view_is) in
    absurd (omega (arith, past, all, count, c.in-Some.ensures.lookup.3.0))

pub returns-in-None-clause-only_memory : goal.returns-in-None-clause-only_memory
returns-in-None-clause-only_memory g c = λ there.
    let count = ap (λ (cores : List (Core g.row.V.Denot)). length cores) c.deref.ensures.value in
    let all = count_shown g.V.Value.bytes _ _ _ _ c.self.invariant (ap (λ (n : NetView g.row.V.Denot). n.history) c.self.view_is) in
    absurd (omega (arith, there, all, count, c.in-None.ensures.lookup.3))
