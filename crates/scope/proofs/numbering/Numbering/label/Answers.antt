use Rattle.scope.proofs.Words.{◌≡◌, ◌∙◌, arith, length, rules, vec_len, is_label_kind}
use Rattle.scope.proofs.EntryLemmas.{indexes-count, name-of-number}
use Rattle.scope.proofs.numbering.Numbering.label.Goals as goal

pub index-requires : goal.index-requires
index-requires c =
    let a = c.self.inside in
    let size : vec_len a.labels ≡ length a.labels.items = search rules in
    let count = indexes-count is_label_kind a.names a.entries.items a.labels.items c.args.self.now c.self.invariant.same c.self.invariant.labels_are c.self.view_is in
    omega (arith, c.requires, size, count)

pub name-requires : goal.name-requires
name-requires c =
    let a = c.self.inside in
    (name-of-number is_label_kind a.names a.entries.items a.labels.items c.args.self.now c.args.number c.index.result.now c.self.invariant.same c.self.invariant.labels_are c.self.view_is c.requires c.index.ensures).0

pub returns : goal.returns
returns c =
    let a = c.self.inside in
    c.name.ensures ∙ (name-of-number is_label_kind a.names a.entries.items a.labels.items c.args.self.now c.args.number c.index.result.now c.self.invariant.same c.self.invariant.labels_are c.self.view_is c.requires c.index.ensures).1
