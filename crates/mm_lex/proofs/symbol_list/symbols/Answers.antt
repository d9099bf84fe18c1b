use Rattle.mm_lex.proofs.Prelude.{sym, refl, subst, [], err_from_is_err_and, AreTokensAfter, IsTokenAfter, IsNextToken}
use Rattle.mm_lex.proofs.BetweenLemmas.{fails_after, stops_fail}
use Rattle.mm_lex.proofs.ListLemmas.{adds_on, adds_word, ends_with, ends_text}
use Rattle.mm_lex.proofs.symbol_list.symbols.Goals as goal

pub returns-in_err-span-clause-fault : goal.returns-in_err-span-clause-fault
returns-in_err-span-clause-fault c =
    let p = err_from_is_err_and c.from_residual-in_err-span.result c.from_residual-in_err-span.ensures.1 in
    rw (p.1, p.2) (fails_after c.loop-words.invariant.between _ (stops_fail c.args.text.now c.loop-words.at _ c.in_err-span.ensures.fault))

pub returns-then-not-is_symbol-clause-end : goal.returns-then-not-is_symbol-clause-end
returns-then-not-is_symbol-clause-end c =
    let text = c.args.text.now in
    let next : IsTokenAfter text c.loop-words.at c.in-Some.span = subst (IsNextToken text c.loop-words.at) c.in-Some.is c.in_ok-span.ensures.next in
    rw c.shrink.ensures (ends_with c.loop-words.invariant c.in-Some.span next (sym c.if-not-is_symbol.ensures))

pub loop-words-preserved : goal.loop-words-preserved
loop-words-preserved c =
    let text = c.args.text.now in
    let next : IsTokenAfter text c.loop-words.at c.in-Some.span = subst (IsNextToken text c.loop-words.at) c.in-Some.is c.in_ok-span.ensures.next in
    adds_on c.loop-words.invariant (adds_word c.loop-words.at c.in-Some.span _ _ _ next refl (sym c.if-not-is_symbol.ensures) c.in_ok-push.ensures.ok)

pub returns-clause-end : goal.returns-clause-end
returns-clause-end c =
    let text = c.args.text.now in
    let none : AreTokensAfter text c.loop-words.at [] = subst (IsNextToken text c.loop-words.at) c.in_default.is c.in_ok-span.ensures.next in
    ends_text c.loop-words.invariant none
