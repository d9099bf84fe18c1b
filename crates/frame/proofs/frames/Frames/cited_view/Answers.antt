use Rattle.frame.proofs.Words.{◌∙◌, sym, subst, IsTrue, same_Some, is_assertion}
use Rattle.frame.proofs.AssertionViewLemmas.{is-there, there-cited}
use Rattle.frame.proofs.frames.Frames.cited_view.Goals as goal

pub returns-in-Some : goal.returns-in-Some
returns-in-Some c = λ s h.
    let k = c.self.inside.storage in
    let asserts : IsTrue (is_assertion s) = subst (λ r. IsTrue (is_assertion r)) (same_Some _ _ (sym c.requires.1.0 ∙ h)) c.requires.1.1 in
    let t = is-there k c.args.a s c.self.invariant (rw (← c.self.view_is) at h, asserts) in
    rw (← c.self.view_is) (there-cited k c.args.a t.0 s t.1 c.in-Some.view c.self.invariant asserts t.2 (c.in-Some.ensures.parts t.1 t.2.got))
