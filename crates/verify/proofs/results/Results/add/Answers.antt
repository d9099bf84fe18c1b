use Rattle.verify.proofs.Words.{arith, refl, ◌∙◌}
use Rattle.verify.proofs.ResultPlaceLemmas.{grown-kept, new-place, pushed-kept, added-seen}
use Rattle.verify.proofs.results.Results.add.Goals as goal

pub invariant_of-self-in_err-push : goal.invariant_of-self-in_err-push
invariant_of-self-in_err-push c = rw c.in_err-push.ensures.items (grown-kept c.self.inside.symbols c.args.expr.now _ c.self.inside.images c.self.inside.stack.items c.self.inside.saved.items c.self.inside.weight _ c.self.invariant
    c.in_ok-extend.ensures.added refl (let h = c.if-expr-self.false in let l = c.self.invariant.light in omega (arith, h, l)))

pub invariant_of-self-2 : goal.invariant_of-self-2
invariant_of-self-2 c = pushed-kept _ c.self.inside.images c.self.inside.stack.items c.self.inside.saved.items _ _ c.range_between-place.result
    (grown-kept c.self.inside.symbols c.args.expr.now _ c.self.inside.images c.self.inside.stack.items c.self.inside.saved.items c.self.inside.weight _ c.self.invariant
    c.in_ok-extend.ensures.added refl (let h = c.if-expr-self.false in let l = c.self.invariant.light in omega (arith, h, l)))
    (new-place c.self.inside.symbols c.args.expr.now _ c.range_between-place.result c.in_ok-extend.ensures.added (c.range_between-place.ensures.0 ∙ c.len-start.ensures.len) (c.range_between-place.ensures.1 ∙ c.len.ensures.len))
    c.in_ok-push.ensures.items

pub returns-clause-adds : goal.returns-clause-adds
returns-clause-adds c =
    rw (← c.self.view_is) (added-seen c.self.inside.symbols c.args.expr.now _ c.self.inside.stack.items c.self.inside.stack.items c.self.inside.saved.items _ c.self.inside.weight _ c.range_between-place.result
    c.self.invariant.saved_within c.self.invariant.stack_within c.in_ok-extend.ensures.added (c.range_between-place.ensures.0 ∙ c.len-start.ensures.len) (c.range_between-place.ensures.1 ∙ c.len.ensures.len) c.in_ok-push.ensures.items refl)

pub returns-clause-kept : goal.returns-clause-kept
returns-clause-kept c = rw (← c.self.view_is) (c.args.expr.now, c.in_ok-extend.ensures.added)
