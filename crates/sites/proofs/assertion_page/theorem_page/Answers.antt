use Rattle.sites.proofs.Words.{stands-within, on_ok, database_of}
use Rattle.sites.proofs.PageLemmas.{has-items-at, provable-at, right-at, shown-proof}
use Rattle.sites.proofs.assertion_page.theorem_page.Goals as goal

pub proof_table-requires : goal.proof_table-requires
proof_table-requires c =
    let named = c.requires.named in
    right-at (database_of c.args.sources.now) c.args.sources.now.frames.now.statements _ c.args.at named.0 c.args.label.now _
    c.requires.sources.good c.requires.sources.frames named.1 c.in_ok-found.ensures.items

pub essential_table-requires-clause-at : goal.essential_table-requires-clause-at
essential_table-requires-clause-at c =
    let named = c.requires.named in
    let F = c.args.sources.now.frames.now.statements in
    let there = provable-at (database_of c.args.sources.now) F _ c.args.at named.0 c.args.label.now _
    c.requires.sources.good c.requires.sources.frames named.1 c.in_ok-found.ensures.items in
    stands-within F c.args.at there.0 there.1.0

pub page_with_proof-requires-clause-assertion : goal.page_with_proof-requires-clause-assertion
page_with_proof-requires-clause-assertion c =
    let named = c.requires.named in
    provable-at (database_of c.args.sources.now) c.args.sources.now.frames.now.statements _ c.args.at named.0 c.args.label.now _
    c.requires.sources.good c.requires.sources.frames named.1 c.in_ok-found.ensures.items

pub returns : goal.returns
returns c =
    let S = database_of c.args.sources.now in
    let named = c.requires.named in
    let frames = c.args.sources.now.frames.now in
    on_ok c.page_with_proof.result
    (λ page made. made (shown-proof S frames.statements c.args.at frames.names _ _ _ c.requires.sources.frames
    (has-items-at S _ c.args.at named.0 c.args.label.now _ c.requires.sources.good named.1 c.in_ok-found.ensures.items)
    c.in_ok-steps.ensures.steps c.in_ok-steps.ensures.rows c.in_ok-essential.ensures))
    c.page_with_proof.ensures
