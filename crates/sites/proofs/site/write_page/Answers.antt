use Rattle.sites.proofs.Words.{◌≡◌, List, ℕ, [], ◌∷◌, ◌+◌, ◌++◌, ◌∙◌, ap, sym, subst, get_or, get_or_from_slice_get, Open, database_of, file_name, is_assertion, page_file, IsPageOf}
use Rattle.sites.proofs.PageLemmas.{read-at}
use Rattle.sites.proofs.SiteLemmas.{writes-one}
use Rattle.sites.proofs.site.write_page.Goals as goal

pub page_at-requires-clause-assertion : goal.page_at-requires-clause-assertion
page_at-requires-clause-assertion g c =
    let S = database_of c.args.sources.now in
    let x = c.index-statements-index.result in
    let stands = read-at S c.statements.result.now c.args.index x c.statements.ensures.statements c.requires.within c.index-statements-index.is in
    ap is_assertion (get_or_from_slice_get S c.args.index x Open stands) ∙ sym c.in-Some.ensures.assertion

pub returns : goal.returns
returns g c =
    let sources = c.args.sources.now in
    let S = database_of sources in
    let at = c.args.index + 1 in
    let x = c.index-statements-index.result in
    let stands = read-at S c.statements.result.now c.args.index x c.statements.ensures.statements c.requires.within c.index-statements-index.is in
    let named : file_name c.in-Some.label.now at ≡ c.as_slice.result.now =
    sym (c.as_slice.ensures.value
    ∙ (c.in_ok-push_file_name.ensures
    ∙ (ap (λ (l : List ℕ). l ++ file_name c.as_bytes.result.now at) c.new-name.ensures.items
    ∙ ap (λ (l : List ℕ). file_name l at) c.as_bytes.ensures.bytes))) in
    writes-one g.S.Folder.writes (IsPageOf sources) c.args.folder.now c.write_file.new.folder at c.as_slice.result.now c.as_slice-2.result.now (page_file at (get_or S c.args.index Open))
    (ap (page_file at) (get_or_from_slice_get S c.args.index x Open stands)
    ∙ (c.in-Some.ensures.file at ∙ ap (λ (n : List ℕ). (at, n) ∷ []) named))
    (subst (IsPageOf sources at) (sym c.as_slice-2.ensures.value) c.in_ok-page.ensures)
    c.in_ok-write_file.ensures
