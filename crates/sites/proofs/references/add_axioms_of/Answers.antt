use Rattle.sites.proofs.ReferenceWords.{◌-◌, ◌∙◌, sym, arith, stands_index, lists_of}
use Rattle.sites.proofs.ListLemmas.{on-ok}
use Rattle.sites.proofs.PassLemmas.{added-more, list-at}
use Rattle.sites.proofs.references.add_axioms_of.Goals as goal

pub returns : goal.returns
returns c =
    let S = c.args.statements.now in
    let p = c.args.position in
    let r = c.requires.axioms in
    let own = stands_index S p c.index-statements-position.result (omega (arith, r.0)) (omega (arith, r.1, c.requires.statements)) c.index-statements-position.is in
    let list = c.as_slice.ensures.value ∙ sym (list-at c.args.axioms.now (p - 1) c.index-axioms-position.result (omega (arith, r.0, r.1)) c.index-axioms-position.is) in
    on-ok c.add_all.result
    (λ more. added-more S (lists_of c.args.axioms.now) p c.args.collector.now c.add_if_axiom.new.collector c.add_all.new.self c.index-statements-position.result c.as_slice.result.now own c.in_ok-add_if_axiom.ensures list more)
    c.add_all.ensures
