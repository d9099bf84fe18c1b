use Rattle.frame.proofs.Words.{◌≡◌, ◌∙◌, ap, sym, arith, IsTrue, Bool, false, false≢true, is_assertion, is_hypothesis_kind, names_in, labels_in, stmt_of, entry_from_ref}
use Rattle.frame.proofs.StoredReading.{entry-hypothesis, entry-stands, is-entry, neither, entry-assertion}
use Rattle.frame.proofs.frames.Frames.meaning.Goals as goal

pub returns-in-Axiom : goal.returns-in-Axiom
returns-in-Axiom c =
    let k = c.self.inside.storage in
    let e = entry_from_ref c.entry.result c.entry.ensures.0 in
    rw (← c.self.view_is) (stmt_of (names_in k) (labels_in k) e, (entry-stands (names_in k) (labels_in k) k.entries c.args.i e (omega (arith, c.if-i-eq0.false)) c.entry.ensures.1, entry-assertion (names_in k) (labels_in k) e c.in-Axiom.is), c.if-i-at.false)

clash : (b : Bool) → b ≡ false → IsTrue b → ⊥
clash b e h = false≢true (sym e ∙ h)

pub returns-in_default : goal.returns-in_default
returns-in_default c = λ s h.
    let k = c.self.inside.storage in
    let e = entry_from_ref c.entry.result c.entry.ensures.0 in
    let none = neither (names_in k) (labels_in k) e c.in_default.not-Float c.in_default.not-Ess c.in_default.not-Axiom c.in_default.not-Prove in
    let same = is-entry (names_in k) (labels_in k) k.entries c.args.i e s (omega (arith, c.if-i-eq0.false)) c.entry.ensures.1 (rw (← c.self.view_is) at h) in
    (λ q. clash (is_hypothesis_kind s) (sym (ap is_hypothesis_kind same) ∙ none.0) q.kind, λ lt t. clash (is_assertion s) (sym (ap is_assertion same) ∙ none.1) t)

pub returns-then-is_active_at : goal.returns-then-is_active_at
returns-then-is_active_at c =
    let k = c.self.inside.storage in
    let e = entry_from_ref c.entry.result c.entry.ensures.0 in
    let s = stmt_of (names_in k) (labels_in k) e in
    let stands = entry-stands (names_in k) (labels_in k) k.entries c.args.i e (omega (arith, c.if-i-eq0.false)) c.entry.ensures.1 in
    rw (← c.self.view_is) (
      s,
      record { stands = stands; kind = (entry-hypothesis (names_in k) (labels_in k) e c.in-Float.is).0; active = sym c.is_active_at.ensures ∙ c.if-is_active_at.true },
      (rw (← c.self.view_is) at c.expr.ensures.same) s stands,
      rw (← c.self.view_is) at c.expr.ensures.codes,
    )

pub returns-else-is_active_at : goal.returns-else-is_active_at
returns-else-is_active_at c = λ s h.
    let k = c.self.inside.storage in
    let e = entry_from_ref c.entry.result c.entry.ensures.0 in
    let same = is-entry (names_in k) (labels_in k) k.entries c.args.i e s (omega (arith, c.if-i-eq0.false)) c.entry.ensures.1 (rw (← c.self.view_is) at h) in (
      λ q. clash _ (sym c.is_active_at.ensures ∙ c.if-is_active_at.false) (rw (← c.self.view_is) at q.active),
      λ lt t. clash (is_assertion s) (sym (ap is_assertion same) ∙ (entry-hypothesis (names_in k) (labels_in k) e c.in-Float.is).1) t,
    )
