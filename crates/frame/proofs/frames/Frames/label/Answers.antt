use Rattle.frame.proofs.Words.{◌∙◌, ap, sym, length, Some, ◌-◌, label_of, names_in, labels_in, entry_from_ref}
use Rattle.frame.proofs.StoredReading.{is-entry}
use Rattle.frame.proofs.LabelLemmas.{label-below-at, label-below, label-is, label-none}
use Rattle.frame.proofs.frames.Frames.label.Goals as goal

pub label-requires : goal.label-requires
label-requires c =
    let k = c.self.inside.storage in
    let e = entry_from_ref c.entry-entry.result c.entry-entry.ensures.0 in
    label-below e.kind e.label_count (length (labels_in k)) (sym c.has_label.ensures ∙ c.if-has_label.true)
    (label-below-at (length (names_in k)) (length (labels_in k)) k.entries c.self.invariant.kept.coded (c.args.at - 1) e c.entry-entry.ensures.1)

pub returns-then-has_label : goal.returns-then-has_label
returns-then-has_label c = λ s h.
    let k = c.self.inside.storage in
    let e = entry_from_ref c.entry-entry.result c.entry-entry.ensures.0 in
    ap Some c.label.ensures
    ∙ (sym (label-is (names_in k) (labels_in k) e (sym c.has_label.ensures ∙ c.if-has_label.true)) ∙ ap label_of (is-entry (names_in k) (labels_in k) k.entries c.args.at e s c.requires.0 c.entry-entry.ensures.1 (rw (← c.self.view_is) at h)))

pub returns-else-has_label : goal.returns-else-has_label
returns-else-has_label c = λ s h.
    let k = c.self.inside.storage in
    let e = entry_from_ref c.entry-entry.result c.entry-entry.ensures.0 in
    sym (label-none (names_in k) (labels_in k) e (sym c.has_label.ensures ∙ c.if-has_label.false)) ∙ ap label_of (is-entry (names_in k) (labels_in k) k.entries c.args.at e s c.requires.0 c.entry-entry.ensures.1 (rw (← c.self.view_is) at h))
