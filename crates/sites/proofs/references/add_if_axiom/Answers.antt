use Rattle.sites.proofs.ReferenceWords.{◌≡◌, IsTrue, ap, is_axiom}
use Rattle.sites.proofs.ListLemmas.{has-as, on-ok}
use Rattle.sites.proofs.references.add_if_axiom.Goals as goal

pub returns-in-Axiom : goal.returns-in-Axiom
returns-in-Axiom c =
    on-ok c.add.result
    (λ more. has-as (λ p. p ≡ c.args.position) (λ p. IsTrue (is_axiom c.args.statement.now) × (p ≡ c.args.position)) c.args.collector.now c.add.new.self (λ p e. (ap is_axiom c.in-Axiom.is, e)) (λ p q. q.1) more)
    c.add.ensures
