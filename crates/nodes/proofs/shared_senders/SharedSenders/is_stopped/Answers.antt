use Rattle.nodes.proofs.SharedLemmas.{stopped_looked}
use Rattle.nodes.proofs.shared_senders.SharedSenders.is_stopped.Goals as goal

pub returns-then-look-clause-stopped : goal.returns-then-look-clause-stopped
returns-then-look-clause-stopped g c =
    let s = c.look.ensures.same c.if-look.true in
    stopped_looked c.self.inside.is_stopped c.self.inside.account c.self.invariant s.0 c.look.new.front c.look.ensures.account s.1
