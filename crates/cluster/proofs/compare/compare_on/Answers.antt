use Rattle.cluster.proofs.Words.{ap, sym, subst, Database, ReplicaState, Agree, IsAhead}
use Rattle.cluster.proofs.CompareLemmas.{cells_agree}
use Rattle.cluster.proofs.compare.compare_on.Goals as goal

pub returns : goal.returns
returns g c = λ before.
    let agree =
    subst (λ (ss : Database). Agree c.library.result.now.replica.statements ss) (ap (λ (r : ReplicaState). r.statements) (sym c.library-2.ensures.library))
    (subst (λ (ss : Database). Agree ss c.args.other.now.node_library.library.statements) (ap (λ (r : ReplicaState). r.statements) (sym c.library.ensures.library))
    (cells_agree c.args.one.now c.args.other.now c.args.switch.now before c.entry.ensures.history_taken c.requires.one c.requires.other c.requires.limit c.library.ensures.of_entries c.library-2.ensures.of_entries)) in
    subst (λ (ss : Database). IsAhead c.ahead_of.result c.args.one.now.node_library.library.statements ss) (ap (λ (r : ReplicaState). r.statements) c.library-2.ensures.library)
    (subst (λ (ss : Database). IsAhead c.ahead_of.result ss c.library-2.result.now.replica.statements) (ap (λ (r : ReplicaState). r.statements) c.library.ensures.library) (c.ahead_of.ensures agree))
