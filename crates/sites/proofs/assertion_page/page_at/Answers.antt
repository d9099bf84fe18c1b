use Rattle.sites.proofs.Words.{◌≡◌, true, Some, ap, ◌∙◌, sym, get_or_from_slice_get, on_ok, Open, is_assertion, label_of, database_of}
use Rattle.sites.proofs.PageLemmas.{assertion-at, other-assertion, read-at, stands-at}
use Rattle.sites.proofs.assertion_page.page_at.Goals as goal

pub theorem_page-requires-clause-named : goal.theorem_page-requires-clause-named
theorem_page-requires-clause-named c =
    let S = database_of c.args.sources.now in
    let x = c.index-statements-index.result in
    let stands = read-at S c.statements.result.now c.args.index x c.statements.ensures.statements c.requires.within c.index-statements-index.is in
    (x, record { stands = stands-at S c.args.index x stands; carried = ap label_of c.in-Prove.is ∙ ap Some (sym c.as_bytes.ensures.bytes) })

pub page_with_proof-requires-clause-assertion : goal.page_with_proof-requires-clause-assertion
page_with_proof-requires-clause-assertion c =
    let S = database_of c.args.sources.now in
    let x = c.index-statements-index.result in
    let stands = read-at S c.statements.result.now c.args.index x c.statements.ensures.statements c.requires.within c.index-statements-index.is in
    assertion-at S c.args.sources.now.frames.now.statements c.args.index x c.requires.sources.frames stands
    (ap is_assertion (sym (get_or_from_slice_get S c.args.index x Open stands)) ∙ c.requires.assertion)

pub returns-in_default : goal.returns-in_default
returns-in_default c =
    let S = database_of c.args.sources.now in
    let x = c.index-statements-index.result in
    let stands = read-at S c.statements.result.now c.args.index x c.statements.ensures.statements c.requires.within c.index-statements-index.is in
    let kind : is_assertion x ≡ true = ap is_assertion (sym (get_or_from_slice_get S c.args.index x Open stands)) ∙ c.requires.assertion in
    on_ok c.page_with_proof.result
    (λ page made. made (record { stmt = x; stands = stands-at S c.args.index x stands; kind = other-assertion x kind c.in_default.not-Prove }))
    c.page_with_proof.ensures
