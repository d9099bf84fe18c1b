use Rattle.frame.proofs.Words.{◌∙◌, ◌-◌, sym, subst, arith, List, ℕ, Disj, ArePlaced}
use Rattle.frame.proofs.KindWalk.{as-many}
use Rattle.frame.proofs.ShapeLemmas.{active-stored, stored-placed}
use Rattle.frame.proofs.pairs.active_disjoints.Goals as goal

pub first_active-requires-clause-placed : goal.first_active-requires-clause-placed
first_active-requires-clause-placed c =
    let k = c.args.storage.now in
    subst (λ (ends : List ℕ). ArePlaced k.entries ends) (sym c.deref.ensures.value) (stored-placed k c.requires.stored)

pub first_active-requires-clause-list : goal.first_active-requires-clause-list
first_active-requires-clause-list c = c.requires.stored.disjoints.each c.args.code

pub first_active-requires-clause-place : goal.first_active-requires-clause-place
first_active-requires-clause-place c = (c.requires.place.0, omega (arith, c.requires.place.1, as-many c.args.storage.now))

pub returns : goal.returns
returns c = c.first_active.ensures.active ∙ sym (active-stored c.args.storage.now Disj c.args.code (c.args.at - 1))
