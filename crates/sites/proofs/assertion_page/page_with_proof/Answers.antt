use Rattle.sites.proofs.Words.{◌≡◌, ◌-◌, refl, false, slice_get, items_or_none, IsUser, Uses, database_of}
use Rattle.sites.proofs.PageLemmas.{listed-at, page-made, within}
use Rattle.sites.proofs.assertion_page.page_with_proof.Goals as goal

pub returns : goal.returns
returns c =
    λ shown.
    let sources = c.args.sources.now in
    let S = database_of sources in
    let there = within S sources.frames.now.statements c.args.at c.requires.assertion.0 c.requires.sources.frames c.requires.assertion.1.0 in
    let references = c.requires.sources.references in
    let axioms : c.in_ok-axioms.axioms.items ≡ items_or_none (slice_get sources.references.axioms.items (c.args.at - 1)) = cc (c.in_ok-axioms.ensures, c.as_slice.ensures.value, c.saturating_sub-index.ensures) in
    let users : c.in_ok-cited_by.cited_by.items ≡ items_or_none (slice_get sources.references.cited_by.items (c.args.at - 1)) = cc (c.in_ok-cited_by.ensures, c.as_slice-2.ensures.value, c.saturating_sub-index.ensures) in
    page-made S sources.site.now.is_unproved.now sources.site.now.text.now c.args.at _ _ _ c.in_ok-write_site_page.ensures c.new-page.ensures.items
    (record {
      statements = c.statements.ensures.statements;
      frames = c.requires.sources.frames;
      typecodes = c.requires.sources.typecodes;
      position = refl;
      proof = shown;
      axioms = listed-at S (Uses S) sources.references.axioms.items c.args.at _ _ references.axioms_listed there axioms c.as_slice-3.ensures.value;
      cited_by = listed-at S (IsUser S false) sources.references.cited_by.items c.args.at _ _ references.cited_by_listed there users c.as_slice-4.ensures.value;
      marked = refl;
      described = (sources.descriptions.items, c.requires.sources.spans, cc (c.description_at.ensures, c.as_slice-5.ensures.value, c.saturating_sub-index.ensures));
    })
