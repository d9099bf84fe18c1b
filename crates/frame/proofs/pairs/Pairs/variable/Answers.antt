use Rattle.frame.proofs.Words.{◌≡◌, ◌∙◌, ◌-◌, ◌∷◌, [], ap, sym, subst, arith, true, List, ℕ, Option, Some, None, IfSome, IfNone, is_some, list_any, Mention, positions_of, Var, ArePlaced}
use Rattle.frame.proofs.KindWalk.{as-many}
use Rattle.frame.proofs.PairTableLemmas.{variable-is}
use Rattle.frame.proofs.ShapeLemmas.{active-stored, stored-placed}
use Rattle.frame.proofs.pairs.Pairs.variable.Goals as goal

pub first_active-declared-requires-clause-placed : goal.first_active-declared-requires-clause-placed
first_active-declared-requires-clause-placed c =
    let k = c.self.inside.storage.now in
    subst (λ (ends : List ℕ). ArePlaced k.entries ends) (sym c.deref.ensures.value) (stored-placed k c.self.invariant.0)

pub first_active-declared-requires-clause-list : goal.first_active-declared-requires-clause-list
first_active-declared-requires-clause-list c = c.self.invariant.0.variables.each c.args.x

pub first_active-declared-requires-clause-place : goal.first_active-declared-requires-clause-place
first_active-declared-requires-clause-place c = (c.self.invariant.2, omega (arith, c.self.invariant.3, as-many c.self.inside.storage.now))

none-weaker : {P Q : Type 0} (r : Option ℕ) → IfNone r P → (P → Q) → IfNone r Q
none-weaker (Some p) h f = tt
none-weaker None h f = f h

some-popped : (st : List ℕ) (r : Option ℕ) (left : List Mention) → IfSome r (λ p. st ≡ p ∷ positions_of left) → IfNone r (st ≡ []) → is_some r ≡ list_any (λ y. true) st
some-popped st (Some p) left some none = ap (list_any (λ y. true)) (sym some)
some-popped st None left some none = ap (list_any (λ y. true)) (sym none)

pub returns : goal.returns
returns c =
    let k = c.self.inside.storage.now in
    let m = c.self.inside.at - 1 in
    let st = positions_of c.first_active-declared.result in
    rw (← c.self.view_is) (c.is_some.ensures
    ∙ (some-popped st c.pop.result c.pop.new.self c.pop.ensures.some (none-left c.pop.ensures.none)
    ∙ variable-is k c.self.invariant.0 c.self.invariant.1 m c.args.x st (rw (← c.self.view_is) at c.requires) (c.first_active-declared.ensures.active ∙ sym (active-stored k Var c.args.x m))))
  where
    none-left : IfNone c.pop.result ((c.first_active-declared.result ≡ []) × (c.pop.new.self ≡ [])) → IfNone c.pop.result (positions_of c.first_active-declared.result ≡ [])
    none-left h = none-weaker c.pop.result h (λ p. ap positions_of p.0)
