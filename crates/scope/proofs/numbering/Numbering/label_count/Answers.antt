use Rattle.scope.proofs.Words.{◌≡◌, ◌∙◌, length, rules, vec_len, is_label_kind}
use Rattle.scope.proofs.EntryLemmas.{indexes-count}
use Rattle.scope.proofs.numbering.Numbering.label_count.Goals as goal

pub returns : goal.returns
returns c =
    let a = c.self.inside in
    let size : vec_len a.labels ≡ length a.labels.items = search rules in
    c.len.ensures ∙ (size ∙ indexes-count is_label_kind a.names a.entries.items a.labels.items c.args.self.now c.self.invariant.same c.self.invariant.labels_are c.self.view_is)
