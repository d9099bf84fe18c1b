use Rattle.frame.proofs.Words.{◌≡◌, ◌∙◌, ◌-◌, ap, map, sym, subst, same_Some, refl, before, is_hypothesis, hypothesis_at, typecode_at, AreListsOf, AreHypotheses, names_in, labels_in, statements_of}
use Rattle.frame.proofs.AssertionLemmas.{hypotheses-of, hypothesis-kinds, ok-both}
use Rattle.frame.proofs.AssertionViewLemmas.{is-there, there-lists}
use Rattle.frame.proofs.frames.Frames.fill_buffers.Goals as goal

pub encode_hypotheses-requires-clause-hypotheses : goal.encode_hypotheses-requires-clause-hypotheses
encode_hypotheses-requires-clause-hypotheses c =
    let k = c.self.inside.storage in
    let s = c.requires.0 in
    let T = before (statements_of k) c.args.a in
    subst (AreHypotheses k.entries) (sym (c.deref.ensures.value ∙ rw (← c.self.view_is) at (c.in_ok-mandatory.ensures.listed s c.requires.1.0))) (hypotheses-of (names_in k) (labels_in k) k.entries (c.args.a - 1) (is_hypothesis T s) (hypothesis-kinds T s))

pub returns : goal.returns
returns c =
    let k = c.self.inside.storage in
    let s = c.requires.0 in
    let t = is-there k c.args.a s c.self.invariant (rw (← c.self.view_is) at c.requires.1) in
    rw (← c.self.view_is) (ok-both c.encode_hypotheses.result
    (λ numbered typecodes r h.
    let same : s ≡ r = same_Some _ _ (sym (rw (← c.self.view_is) at c.requires.1.0) ∙ h) in
    subst (AreListsOf (statements_of k) (names_in k) c.args.a _) same
    (there-lists k c.args.a t.0 s t.1 c.self.invariant c.requires.1.1 t.2 c.mandatory.new.list.items _
    (record { same = refl; numbered_made = numbered ∙ ap (map (hypothesis_at k.entries)) c.deref.ensures.value; typecodes_made = typecodes ∙ ap (map (typecode_at k.entries)) c.deref.ensures.value })
    (rw (← c.self.view_is) at (c.in_ok-mandatory.ensures.listed s c.requires.1.0))))
    c.encode_hypotheses.ensures.numbered_hypotheses c.encode_hypotheses.ensures.typecodes)
