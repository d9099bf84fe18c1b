use Rattle.frame.proofs.Words.{◌∙◌, ap, sym, subst, IsTrue, is_assertion, same_Some}
use Rattle.frame.proofs.AssertionViewLemmas.{is-there}
use Rattle.frame.proofs.frames.Frames.size.Goals as goal

pub returns : goal.returns
returns c = λ s h.
    let asserts : IsTrue (is_assertion s) = subst (λ r. IsTrue (is_assertion r)) (same_Some _ _ (sym c.requires.1.0 ∙ h)) c.requires.1.1 in
    let t = is-there c.self.inside.storage c.args.a s c.self.invariant (rw (← c.self.view_is) at h, asserts) in
    let same = same_Some _ _ (sym t.2.got ∙ c.entry.ensures.1) in
    rw (← c.self.view_is) (sym (ap (λ e. e.size) same) ∙ t.2.size)
