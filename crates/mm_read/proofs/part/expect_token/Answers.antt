use Rattle.mm_read.proofs.Words.{◌∙◌, ap, sym, refl, subst, [], name_eq, AreTokensAfter, IsTokenAfter, IsNextToken}
use Rattle.mm_read.proofs.PartLemmas.{starts_none, starts_other}
use Rattle.mm_read.proofs.part.expect_token.Goals as goal

pub returns-else-eq-clause-fault : goal.returns-else-eq-clause-fault
returns-else-eq-clause-fault c =
    let text = c.args.text.now in
    let at = c.args.at in
    let end = c.args.end.now in
    let next : IsTokenAfter text at c.in-Some.span = subst (IsNextToken text at) c.in-Some.is c.in_ok-span.ensures.next in
    (refl, starts_other at (λ w. name_eq w end) c.in-Some.span next (ap (λ w. name_eq w end) (sym c.token_bytes.ensures) ∙ sym c.if-eq.ensures))

pub returns-in_default-clause-fault : goal.returns-in_default-clause-fault
returns-in_default-clause-fault c =
    let text = c.args.text.now in
    let at = c.args.at in
    let none : AreTokensAfter text at [] = subst (IsNextToken text at) c.in_default.is c.in_ok-span.ensures.next in
    (refl, starts_none at (λ w. name_eq w c.args.end.now) none)
