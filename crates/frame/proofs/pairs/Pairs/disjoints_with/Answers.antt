use Rattle.frame.proofs.Words.{◌-◌, sym, subst, is_disj, statements_of, positions_of, AreOfKind}
use Rattle.frame.proofs.PairTableLemmas.{positions_with-of-kind, row-is, row-low, row-together}
use Rattle.frame.proofs.RowLemmas.{row-sum}
use Rattle.frame.proofs.pairs.Pairs.disjoints_with.Goals as goal

pub new-requires-clause-disjoints : goal.new-requires-clause-disjoints
new-requires-clause-disjoints c =
    let k = c.self.inside.storage.now in
    subst (AreOfKind is_disj (statements_of k)) (sym c.active_disjoints.ensures) (positions_with-of-kind k c.self.invariant.0 c.self.invariant.1 (c.self.inside.at - 1) is_disj k.entries c.args.x)

pub returns : goal.returns
returns c =
    let k = c.self.inside.storage.now in
    let m = c.self.inside.at - 1 in
    let st = positions_of c.active_disjoints.result in
    let lt = rw (← c.self.view_is) at c.requires in
    rw (← c.self.view_is, c.new.ensures) (record {
      pairs = λ y b. row-is k c.self.invariant.0 c.self.invariant.1 m c.args.x y st lt b c.active_disjoints.ensures;
      together = row-together k c.self.invariant.0 c.self.invariant.1 m c.args.x st c.active_disjoints.ensures;
      below = row-low k c.self.invariant.0 c.self.invariant.1 m st;
      row = row-sum k c.self.invariant.0 c.self.invariant.1 m c.args.x st lt c.active_disjoints.ensures;
    })
