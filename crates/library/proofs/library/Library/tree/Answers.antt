use Rattle.library.proofs.Words.{sym, ◌∙◌, ap, inl, inr, subst, bares, provable-bare, Good}
use Rattle.library.proofs.QueriesLemmas.{one-tree, derives-these, large-fault}
use Rattle.library.proofs.library.Library.tree.Goals as goal

pub derivation-requires : goal.derivation-requires
derivation-requires c =
    (_, provable-bare c.args.self.now.replica.statements _ c.in-Ok.at c.in-Ok.ensures.items.named.stmt (c.frames-frames.ensures.same ∙ ap bares c.database-database.ensures) c.in-Ok.ensures.items.named.provable)

pub returns-in-Ok-derivation-clause-large : goal.returns-in-Ok-derivation-clause-large
returns-in-Ok-derivation-clause-large c = λ t tree big.
    let S = c.args.self.now.replica.statements in
    let proof = c.in-Ok.ensures.items in
    let spells = one-tree S (subst Good c.database-database.ensures c.frames-frames.ensures.good) c.args.label.now c.in-Ok.at t proof.named tree in
    let d = derives-these S c.frames-frames.result.now.statements (c.frames-frames.ensures.same ∙ ap bares c.database-database.ensures) c.in-Ok.at c.in-Ok.items t proof.written spells in
    elim (c.derivation.ensures.large t d big) [ inl e ↦ absurd (let f = sym c.in-Ok-derivation.is ∙ e in cc) | inr e ↦ absurd (let f = sym c.in-Ok-derivation.is ∙ e in cc) ]

pub returns-clause-large : goal.returns-clause-large
returns-clause-large c = λ t tree big.
    large-fault c.args.self.now.replica.statements (subst Good c.database-database.ensures c.frames-frames.ensures.good) c.args.label.now c.in-Err.fault t tree c.in-Err.ensures.no_label c.in-Err.ensures.not_provable
