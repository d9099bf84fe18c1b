use Rattle.mm_lex.proofs.Prelude.{refl, arith, subst, [], ◌∷◌, ◌++◌, length-append, append-nil, err_from_is_err_and, word, AreTokensAfter, IsTokenAfter, IsNextToken}
use Rattle.mm_lex.proofs.BetweenLemmas.{between_none, between_on, after_on, after_as, stops_after}
use Rattle.mm_lex.proofs.walk.count_tokens.Goals as goal

pub loop-span-init : goal.loop-span-init
loop-span-init c = ([], between_none c.args.at c.requires.place, refl, omega arith)

pub returns-in_err-span-clause-fault : goal.returns-in_err-span-clause-fault
returns-in_err-span-clause-fault c =
    let p = err_from_is_err_and c.from_residual.result c.from_residual.ensures.1 in
    rw (p.1, p.2) (stops_after c.loop-span.invariant.1 _ c.in_err-span.ensures.fault)

pub loop-span-preserved : goal.loop-span-preserved
loop-span-preserved c =
    let text = c.args.text.now in
    let so = c.loop-span.invariant in
    let next : IsTokenAfter text c.loop-span.from c.in-Some.span = subst (IsNextToken text c.loop-span.from) c.in-Some.is c.in_ok-span.ensures.next in
    let w = word text c.in-Some.span in
    (so.0 ++ w ∷ [], between_on so.1 next.between, omega (arith, so.2, length-append so.0 (w ∷ [])), omega (arith, so.3, next.later))

pub returns-clause-count : goal.returns-clause-count
returns-clause-count c =
    let text = c.args.text.now in
    let so = c.loop-span.invariant in
    let none : AreTokensAfter text c.loop-span.from [] = subst (IsNextToken text c.loop-span.from) c.in_default.is c.in_ok-span.ensures.next in
    (so.0, after_as c.args.at (append-nil so.0) (after_on so.1 none), so.2)
