use Rattle.frame.proofs.Words.{◌∙◌, sym, arith, length, name_at, is_pair_disjoint}
use Rattle.frame.proofs.ActiveDisjointLemmas.{stops, goes_on, below-at}
use Rattle.frame.proofs.pairs.Pairs.is_disjoint.Goals as goal

pub is_apart-requires : goal.is_apart-requires
is_apart-requires c = (c.requires.symbol, below-at (length c.args.self.now.names) c.args.codes.now c.loop-y.y-index 0 c.requires.below (omega arith))

pub returns-then-not-is_apart : goal.returns-then-not-is_apart
returns-then-not-is_apart c =
    let v = c.args.self.now in
    sym (stops (is_pair_disjoint v.statements (name_at v.names c.args.x)) (name_at v.names) c.args.codes.now c.loop-y.y-index 0 (omega arith) (sym c.is_apart.ensures ∙ c.if-not-is_apart.true))

pub loop-y-preserved : goal.loop-y-preserved
loop-y-preserved c =
    let v = c.args.self.now in
    goes_on (is_pair_disjoint v.statements (name_at v.names c.args.x)) (name_at v.names) c.args.codes.now c.loop-y.y-index 0 (omega arith) c.loop-y.invariant (sym c.is_apart.ensures ∙ c.if-not-is_apart.false)
