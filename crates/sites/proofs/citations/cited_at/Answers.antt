use Rattle.sites.proofs.ReferenceWords.{◌≡◌, ◌<◌, suc, Some, length, slice_get, ap, ◌∙◌, sym, subst, refl, arith, slice_get_read, on_ok, label_of}
use Rattle.sites.proofs.CitationLemmas.{proof-items, cited-those}
use Rattle.sites.proofs.citations.cited_at.Goals as goal

pub returns : goal.returns
returns c =
    let S = c.args.library.now.replica.statements in
    let s = c.index-statements-index.result in
    let less : c.args.index < length c.statements.result.now = omega (arith, c.requires, ap length c.statements.ensures.statements) in
    let read = slice_get_read c.statements.result.now (length c.statements.result.now) c.args.index s refl less c.index-statements-index.is in
    let stands = subst (λ T. slice_get T c.args.index ≡ Some s) c.statements.ensures.statements read in
    let has = proof-items S (suc c.args.index) c.in-Ok.field-0-0 s c.as_bytes.result.now _ c.statements.ensures.good stands (ap label_of c.in-Prove.is ∙ ap Some (sym c.as_bytes.ensures.bytes)) c.in-Ok.ensures.items in
    on_ok c.cited_positions.result (λ list those. cited-those S c.frames.result.now.statements c.frames.ensures.same (suc c.args.index) _ list.items has those) c.cited_positions.ensures
