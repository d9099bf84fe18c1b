use Rattle.frame.proofs.PairListLemmas.{each-below}
use Rattle.frame.specs.ListsOfPairs.{is_numbered_pair}
use Rattle.subst.proofs.Words.{◌&&◌, length, get_or, sym, ◌∙◌, ap, list_all, list_all_more, below-at}
use Rattle.subst.proofs.DisjointImageLemmas.{has-at, row-tells}
use Rattle.subst.proofs.violation.first_unpaired.Goals as goal

pub read_row-requires : goal.read_row-requires
read_row-requires c = below-at (length c.args.pairs.now.names) c.args.variables.now c.loop-variable.variable-index 0 c.requires.variables c.loop-variable-test.true

pub returns-in-Some : goal.returns-in-Some
returns-in-Some c =
    let others = c.args.others.now in (
      has-at c.args.variables.now c.loop-variable.variable-index c.loop-variable-test.true,
      c.in-Some.ensures.0,
      sym (c.in_ok-read_row.ensures.row.each c.in-Some.other (each-below (length c.args.pairs.now.names) others c.in-Some.other c.requires.others c.in-Some.ensures.0)) ∙ c.in-Some.ensures.1,
    )

pub loop-variable-preserved : goal.loop-variable-preserved
loop-variable-preserved c =
    let v = c.args.pairs.now in
    let variables = c.args.variables.now in
    let others = c.args.others.now in
    let n = c.loop-variable.variable-index in
    list_all_more (λ u. list_all (is_numbered_pair v u) others) variables n 0 c.loop-variable-test.true
    ∙ (ap (λ b. b && list_all (is_numbered_pair v (get_or variables n 0)) others) c.loop-variable.invariant
    ∙ (sym (row-tells v (get_or variables n 0) c.read_row.new.row others c.in_ok-read_row.ensures.row c.requires.others) ∙ c.in_default.ensures))
