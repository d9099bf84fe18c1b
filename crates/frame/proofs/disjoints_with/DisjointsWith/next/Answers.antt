use Rattle.frame.proofs.Words.{◌-◌, subst, arith, is_disj, statements_of, positions_of, slice_get_within, AreOfKind, sym}
use Rattle.frame.proofs.KindWalk.{as-many}
use Rattle.frame.proofs.disjoints_with.DisjointsWith.next.Goals as goal

pub invariant_of-self : goal.invariant_of-self
invariant_of-self c = (c.self.invariant.0, subst (λ l. AreOfKind is_disj (statements_of c.self.inside.storage.now) (positions_of l)) (sym c.in_err-at.ensures.none.1) tt)

pub entry-requires : goal.entry-requires
entry-requires c =
    let k = c.self.inside.storage.now in
    let are = subst (AreOfKind is_disj (statements_of k)) c.in_ok-at.ensures.some c.self.invariant.1 in
    omega (arith, slice_get_within (statements_of k) (c.in_ok-at.at - 1) are.0.statement are.0.stands, as-many k)
