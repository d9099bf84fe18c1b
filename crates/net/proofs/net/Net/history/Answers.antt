use Rattle.net.proofs.Words.{ap, subst, BeginsNew, NetView, Agreement}
use Rattle.net.specs.Resumed.{RunBefore, GoesOn}
use Rattle.net.proofs.HistoryLemmas.{events_within}
use Rattle.net.proofs.AgreementLemmas.{agreement_of}
use Rattle.net.proofs.ResumedLemmas.{goes_on}
use Rattle.net.proofs.net.Net.history.Goals as goal

pub returns-clause-few : goal.returns-clause-few
returns-clause-few g c = events_within g.V.Value.bytes _ _ _ _ c.self.invariant (ap (λ (n : NetView g.row.V.Denot). n.history) c.self.view_is)

pub returns-clause-agreement : goal.returns-clause-agreement
returns-clause-agreement g c =
    subst (λ (n : NetView g.row.V.Denot). BeginsNew n.history → Agreement g.V.Value.bytes n.history) c.self.view_is
    (λ new. agreement_of g.V.Value.bytes _ c.self.invariant.world new c.self.invariant.is_after)

pub returns-clause-resumed : goal.returns-clause-resumed
returns-clause-resumed g c =
    subst (λ (n : NetView g.row.V.Denot). (before : RunBefore g.V.Value.bytes n.history) → GoesOn g.V.Value.bytes n.history before) c.self.view_is
    (λ before. goes_on g.V.Value.bytes _ before c.self.invariant.world c.self.invariant.is_after)
