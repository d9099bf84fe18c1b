use Rattle.verify.proofs.Words.{length, arith, ap, ◌∙◌, on_ok_weaker}
use Rattle.verify.proofs.PairCountLemmas.{count-made, kept-list, made-list}
use Rattle.verify.proofs.disjointness.make_list.Goals as goal

pub returns-then-cited-clause-list : goal.returns-then-cited-clause-list
returns-then-cited-clause-list c = kept-list c.args.cited.now c.requires.cited.0 c.args.made.now c.args.index c.requires.cited.1 c.if-cited.true c.requires.index

pub fill-requires-clause-index : goal.fill-requires-clause-index
fill-requires-clause-index c =
    let n = ap length (c.requires.begun.variables c.if-cited.false) ∙ count-made c.args.cited.now c.if-cited.false in
    let low = c.requires.index in
    omega (arith, n, low)

pub returns-clause-list : goal.returns-clause-list
returns-clause-list c =
    on_ok_weaker c.fill.result (λ is. made-list c.args.cited.now c.args.made.now.variables c.fill.new.self c.args.index c.if-cited.false (c.requires.begun.variables c.if-cited.false) is) c.fill.ensures.list
