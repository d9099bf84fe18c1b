use Rattle.verify.proofs.Words.{[], append-nil, arith, refl, sym}
use Rattle.verify.proofs.ResultPlaceLemmas.{saved-at, kept-recall, recall-seen, recall-heavy}
use Rattle.verify.proofs.results.Results.recall.Goals as goal

pub overflow_sub-len : goal.overflow_sub-len
overflow_sub-len c = (saved-at _ _ _ _ _ c.self.invariant.saved_within (omega (arith, c.if-index-len.false, c.len.ensures)) c.index-place.ensures).0

pub returns-then-len-self-clause-recalls : goal.returns-then-len-self-clause-recalls
returns-then-len-self-clause-recalls c =
    rw (← c.self.view_is) (recall-heavy _ _ _ _ _ _ c.self.invariant.saved_within c.self.invariant.light (omega (arith, c.if-index-len.false, c.len.ensures)) c.index-place.ensures c.if-len-self.true)

pub invariant_of-self-2 : goal.invariant_of-self-2
invariant_of-self-2 c = kept-recall _ _ _ _ _ _ _ _ _ c.self.invariant (omega (arith, c.if-index-len.false, c.len.ensures)) c.index-place.ensures c.in_ok-push.ensures.items (omega arith) (let h = c.if-len-self.false in let l = c.self.invariant.light in omega (arith, h, l))

pub returns-clause-recalls : goal.returns-clause-recalls
returns-clause-recalls c = rw (← c.self.view_is) (recall-seen _ _ _ _ _ _ _ _ _ c.self.invariant.saved_within (omega (arith, c.if-index-len.false, c.len.ensures)) c.index-place.ensures c.in_ok-push.ensures.items refl)

pub returns-clause-kept : goal.returns-clause-kept
returns-clause-kept c = rw (← c.self.view_is) ([], sym (append-nil c.self.inside.symbols))
