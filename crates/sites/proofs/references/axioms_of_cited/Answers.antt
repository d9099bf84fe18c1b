use Rattle.sites.proofs.ReferenceWords.{[], arith, refl, HoldsForSome, on_ok, lists_of, AddsAxiom}
use Rattle.sites.proofs.ListLemmas.{in-at, has-some-next, has-some-all, those-collected}
use Rattle.sites.proofs.references.axioms_of_cited.Goals as goal

pub add_axioms_of-requires-clause-axioms : goal.add_axioms_of-requires-clause-axioms
add_axioms_of-requires-clause-axioms c = c.requires.axioms _ (in-at c.args.cited.now c.loop-position.position-index (omega (arith, c.loop-position-test.true)))

pub loop-position-preserved : goal.loop-position-preserved
loop-position-preserved c =
    has-some-next (AddsAxiom c.args.statements.now (lists_of c.args.axioms.now)) c.args.cited.now c.loop-position.position-index [] c.loop-position.collector c.add_axioms_of.new.collector
    (omega (arith, c.loop-position-test.true)) c.loop-position.invariant c.in_ok-add_axioms_of.ensures

pub returns : goal.returns
returns c =
    let R = AddsAxiom c.args.statements.now (lists_of c.args.axioms.now) in
    on_ok c.ordered.result
    (λ list those. those-collected (HoldsForSome R c.args.cited.now) [] c.loop-position.collector list.items refl
    (has-some-all R c.args.cited.now c.loop-position.position-index [] c.loop-position.collector (omega (arith, c.loop-position-test.false)) c.loop-position.invariant) those)
    c.ordered.ensures
