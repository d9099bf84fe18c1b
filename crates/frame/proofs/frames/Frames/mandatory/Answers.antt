use Rattle.frame.proofs.Words.{◌≡◌, ◌∙◌, ap, sym, arith, length-map, ◌++◌, same_Some, slice_get_within, before, hypotheses, names_in, labels_in, statements_of, stmt_of}
use Rattle.frame.proofs.AssertionViewLemmas.{all-legal, is-there}
use Rattle.frame.proofs.frames.Frames.mandatory.Goals as goal

pub find_hypotheses-requires-clause-place : goal.find_hypotheses-requires-clause-place
find_hypotheses-requires-clause-place c =
    let k = c.self.inside.storage in
    let t = is-there k c.args.a c.requires.assertion.0 c.self.invariant (rw (← c.self.view_is) at c.requires.assertion.1) in
    let low = slice_get_within k.entries t.0 t.1 t.2.here in
    (omega (arith, t.2.place), omega (arith, t.2.place, low, length-map k.entries (stmt_of (names_in k) (labels_in k))))

pub find_hypotheses-requires-clause-codes : goal.find_hypotheses-requires-clause-codes
find_hypotheses-requires-clause-codes c = rw (← c.self.view_is) at c.expr.ensures.codes

pub returns-then-not-is_whole-clause-listed : goal.returns-then-not-is_whole-clause-listed
returns-then-not-is_whole-clause-listed c = λ s h. rw (← c.self.view_is) (c.find_hypotheses.ensures s (rw (← c.self.view_is) at (c.expr.ensures.same s h)))

pub returns-clause-listed : goal.returns-clause-listed
returns-clause-listed c = λ s h.
    let k = c.self.inside.storage in let stands = rw (← c.self.view_is) at c.requires.assertion.1 in
    let t = is-there k c.args.a c.requires.assertion.0 c.self.invariant stands in
    let whole = sym (c.is_whole.ensures t.1 t.2.got) ∙ c.if-not-is_whole.false in
    let list = c.in_ok-extend_from_slice.ensures.items ∙ (ap (λ xs. xs ++ c.hypotheses.result.now) c.requires.empty ∙ c.hypotheses.ensures t.1 t.2.got) in
    let same : c.requires.assertion.0 ≡ s = same_Some _ _ (sym c.requires.assertion.1.0 ∙ h) in
    rw (← c.self.view_is) (list ∙ ((t.2.kept whole).described.same ∙ ap (hypotheses (before (statements_of k) c.args.a)) same))

pub returns-then-not-is_whole-clause-legal : goal.returns-then-not-is_whole-clause-legal
returns-then-not-is_whole-clause-legal c = rw (← c.self.view_is) (all-legal c.self.inside.storage c.self.invariant)

pub returns-clause-legal : goal.returns-clause-legal
returns-clause-legal c = rw (← c.self.view_is) (all-legal c.self.inside.storage c.self.invariant)

pub returns-in_err-extend_from_slice-clause-legal : goal.returns-in_err-extend_from_slice-clause-legal
returns-in_err-extend_from_slice-clause-legal c = rw (← c.self.view_is) (all-legal c.self.inside.storage c.self.invariant)
