use Rattle.sites.proofs.Words.{◌≡◌, ◌<◌, ◌∙◌, length, ap, arith, bares, Database, IsPage, classes_of}
use Rattle.sites.proofs.SiteLemmas.{pages-next}
use Rattle.sites.proofs.site.write_pages.Goals as goal

pub loop-index-preserved : goal.loop-index-preserved
loop-index-preserved g c =
    let site = c.args.site.now in
    let S = site.library.now.replica.statements in
    let less : c.loop-index.index < length S = omega (arith, c.loop-index-test.true, ap length c.statements-statements.ensures.statements) in
    pages-next g.S.Folder.writes (IsPage S site.is_unproved.now site.text.now) c.args.folder.now c.loop-index.folder c.write_page.new.folder S c.loop-index.index less
    c.loop-index.invariant c.in_ok-write_page.ensures

pub write_page-requires-clause-sources : goal.write_page-requires-clause-sources
write_page-requires-clause-sources g c =
    let S = c.args.site.now.library.now.replica.statements in
    let held = c.frames-frames.result.now in
    let typed : c.in_ok-typecodes.typecodes ≡ classes_of held.names S (bares S) =
    c.in_ok-typecodes.ensures
    ∙ (ap (λ (U : Database). classes_of held.names U held.statements) c.statements-statements.ensures.statements
    ∙ ap (classes_of held.names S) c.frames-frames.ensures.same) in
    record {
      good = c.statements-statements.ensures.good;
      frames = c.frames-frames.ensures.same;
      typecodes = typed;
      references = c.in_ok-references.ensures;
      spans = c.in_ok-spans.ensures;
    }
