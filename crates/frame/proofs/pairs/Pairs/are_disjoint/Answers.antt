use Rattle.frame.proofs.Words.{◌∙◌, sym, arith, length, name_at, decode, is_symbol_disjoint}
use Rattle.frame.proofs.ActiveDisjointLemmas.{stops, goes_on, below-at}
use Rattle.frame.proofs.pairs.Pairs.are_disjoint.Goals as goal

pub is_disjoint-requires-clause-symbol : goal.is_disjoint-requires-clause-symbol
is_disjoint-requires-clause-symbol c = below-at (length c.args.self.now.names) c.args.left.now c.loop-x.x-index 0 c.requires.left (omega arith)

pub returns-then-not-is_disjoint : goal.returns-then-not-is_disjoint
returns-then-not-is_disjoint c =
    let v = c.args.self.now in
    sym (stops (is_symbol_disjoint v.statements (decode v.names c.args.right.now)) (name_at v.names) c.args.left.now c.loop-x.x-index 0 (omega arith) (sym c.is_disjoint.ensures ∙ c.if-not-is_disjoint.true))

pub loop-x-preserved : goal.loop-x-preserved
loop-x-preserved c =
    let v = c.args.self.now in
    goes_on (is_symbol_disjoint v.statements (decode v.names c.args.right.now)) (name_at v.names) c.args.left.now c.loop-x.x-index 0 (omega arith) c.loop-x.invariant (sym c.is_disjoint.ensures ∙ c.if-not-is_disjoint.false)
