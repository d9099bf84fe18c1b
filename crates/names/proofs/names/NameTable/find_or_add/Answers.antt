use Rattle.names.proofs.Words.{sym, subst, AreDistinct}
use Rattle.names.proofs.CodesLemmas.{code-name, added-name}
use Rattle.names.proofs.CodesLemmas.{unknown-number}
use Rattle.names.proofs.DistinctLemmas.{distinct-push}
use Rattle.names.proofs.names.NameTable.find_or_add.Goals as goal

pub add-requires : goal.add-requires
add-requires c = unknown-number c.args.self.now c.args.name.now c.in-None.ensures.code

pub returns-in-Some-clause-name : goal.returns-in-Some-clause-name
returns-in-Some-clause-name c = code-name c.args.self.now c.args.name.now c.in-Some.found (sym c.in-Some.ensures.code)

pub returns-in_ok-added-in-None-clause-name : goal.returns-in_ok-added-in-None-clause-name
returns-in_ok-added-in-None-clause-name c =
    let k = c.in_ok-added-in-None.ensures in
    added-name c.args.self.now c.add.new.self c.args.name.now c.in_ok-added-in-None.added k.code k.ok

pub returns-in_ok-added-in-None-clause-distinct : goal.returns-in_ok-added-in-None-clause-distinct
returns-in_ok-added-in-None-clause-distinct c =
    subst AreDistinct (sym c.in_ok-added-in-None.ensures.ok)
    (distinct-push c.args.self.now c.args.name.now c.in-None.ensures.distinct (unknown-number c.args.self.now c.args.name.now c.in-None.ensures.code))
