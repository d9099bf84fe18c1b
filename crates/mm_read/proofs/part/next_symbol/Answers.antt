use Rattle.mm_read.proofs.Words.{◌∙◌, ap, sym, refl, subst, [], is_symbol, AreTokensAfter, IsTokenAfter, IsNextToken}
use Rattle.mm_read.proofs.PartLemmas.{starts_none, starts_other}
use Rattle.mm_read.proofs.part.next_symbol.Goals as goal
use Rattle.mm_read.proofs.part.next_symbol.Goals.{in-Some+else-is_symbol, in_default}

pub returns-clause-fault : goal.returns-clause-fault
returns-clause-fault c =
    let text = c.args.text.now in
    let at = c.args.at in
    elim c.match-branch-2.branch [
      | in-Some+else-is_symbol w ↦ (
        refl,
        let next : IsTokenAfter text at w.in-Some.span = subst (IsNextToken text at) w.in-Some.is c.in_ok-span.ensures.next in
            starts_other at is_symbol w.in-Some.span next (ap is_symbol (sym w.token_bytes-word.ensures) ∙ sym w.if-is_symbol.ensures),
      )
      | in_default w ↦ (
        refl,
        let none : AreTokensAfter text at [] = subst (IsNextToken text at) w.in_default.is c.in_ok-span.ensures.next in
            starts_none at is_symbol none,
      )
    ]
