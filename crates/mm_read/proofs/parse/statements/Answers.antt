use Rattle.mm_read.proofs.Words.{refl, arith, subst, sym, between_none, ReadsUpTo, IsNextStep}
use Rattle.mm_read.proofs.NextLemmas.{before_more, reads_all}
use Rattle.mm_read.proofs.parse.statements.Goals as goal

pub loop-next-init : goal.loop-next-init
loop-next-init c = rw c.new-statements.ensures.items (record { shaped = refl; between = between_none 0 (omega arith) })

pub loop-next-preserved : goal.loop-next-preserved
loop-next-preserved c =
    before_more c.loop-next.invariant
    (subst (IsNextStep c.args.text.now c.loop-next.at c.loop-next.statements.items c.add_next.new.statements.items) c.in-Ok-Some.field-0-is c.in-Ok-Some.ensures.next)

pub returns-in-Ok-None-clause-found : goal.returns-in-Ok-None-clause-found
returns-in-Ok-None-clause-found c =
    let text = c.args.text.now in
    let none = subst (IsNextStep text c.loop-next.at c.loop-next.statements.items c.add_next.new.statements.items) c.in-Ok-None.field-0-is c.in-Ok-None.ensures.next in
    reads_all c.loop-next.at _ c.requires (subst (ReadsUpTo text c.loop-next.at) (sym none.1) c.loop-next.invariant) none.0
