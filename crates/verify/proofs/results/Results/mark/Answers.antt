use Rattle.std.proofs.Common.{[], append-nil, ◌-◌, length, slice_get, sym, ap, ◌∙◌}
use Rattle.verify.proofs.ResultPlaceLemmas.{kept-mark}
use Rattle.verify.proofs.results.Results.mark.Goals as goal

pub invariant_of-self-2 : goal.invariant_of-self-2
invariant_of-self-2 c = kept-mark c.self.inside.symbols c.self.inside.images c.self.inside.stack.items c.self.inside.saved.items _ c.self.inside.weight c.in-Some.field-0.now (length c.self.inside.stack.items - 1) c.self.invariant
    (ap (λ s. slice_get s (length s - 1)) (sym c.deref.ensures.value) ∙ sym c.in-Some.ensures.value) c.in_ok-push.ensures.items

pub returns-clause-kept : goal.returns-clause-kept
returns-clause-kept c = rw (← c.self.view_is) ([], sym (append-nil c.self.inside.symbols))
