use Rattle.net.proofs.Words.{List, length, ap, arith, Packet, NetView}
use Rattle.net.proofs.HistoryLemmas.{packets_shown}
use Rattle.net.proofs.net.Net.posted.Goals as goal

pub returns : goal.returns
returns g c =
    let shown = ap (λ (ps : List (Packet g.row.V.Denot)). length ps) (packets_shown g.V.Value.bytes _ _ _ _ c.self.invariant (ap (λ (n : NetView g.row.V.Denot). n.history) c.self.view_is)) in
    omega (arith, shown, c.len.ensures)
