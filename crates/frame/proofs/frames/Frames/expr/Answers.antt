use Rattle.frame.proofs.Words.{◌∙◌, ◌-◌, ap, sym, length, expr_of, names_in, labels_in, entry_from_ref}
use Rattle.frame.proofs.StoredReading.{two-of, entry-expr, entry-none, is-entry}
use Rattle.frame.proofs.StoredOneMore.{numbered-at}
use Rattle.frame.proofs.frames.Frames.expr.Goals as goal

pub returns-then-has_label-clause-same : goal.returns-then-has_label-clause-same
returns-then-has_label-clause-same c = λ s h.
    let k = c.self.inside.storage in
    let e = entry_from_ref c.entry-entry.result c.entry-entry.ensures.0 in
    let g = c.entry-entry.ensures.1 in
    rw (← c.self.view_is) (entry-expr (names_in k) (labels_in k) e (sym c.has_label.ensures ∙ c.if-has_label.true) (two-of (length (names_in k)) (length (labels_in k)) k.entries c.self.invariant.kept.coded (c.args.at - 1) e g)
    ∙ ap expr_of (is-entry (names_in k) (labels_in k) k.entries c.args.at e s c.requires.0 g (rw (← c.self.view_is) at h)))

pub returns-then-has_label-clause-codes : goal.returns-then-has_label-clause-codes
returns-then-has_label-clause-codes c =
    let k = c.self.inside.storage in
    rw (← c.self.view_is) (numbered-at (length (names_in k)) (length (labels_in k)) k.entries c.self.invariant.kept.coded (c.args.at - 1) (entry_from_ref c.entry-entry.result c.entry-entry.ensures.0) c.entry-entry.ensures.1)

pub returns-else-has_label-clause-same : goal.returns-else-has_label-clause-same
returns-else-has_label-clause-same c = λ s h.
    let k = c.self.inside.storage in
    let e = entry_from_ref c.entry-entry.result c.entry-entry.ensures.0 in
    sym (entry-none (names_in k) (labels_in k) e (sym c.has_label.ensures ∙ c.if-has_label.false)) ∙ ap expr_of (is-entry (names_in k) (labels_in k) k.entries c.args.at e s c.requires.0 c.entry-entry.ensures.1 (rw (← c.self.view_is) at h))
