use Rattle.explain.proofs.Words.{◌≡◌, ◌-◌, [], get_or, arith, sym, ◌∙◌, subst, Some, slice_get, Cite, IfOk-weaker, UnknownLabel, IsItemFault, same_Some}
use Rattle.explain.proofs.RunItemLemmas.{found-length, cited_fails}
use Rattle.explain.proofs.StoppedLemmas.{held, fails_mark, fails_recall, cannot_cite, mark_there, recall_there, cite_there, position_at}
use Rattle.explain.proofs.run.item_fault.Goals as goal

pub returns-then-number-eq0 : goal.returns-then-number-eq0
returns-then-number-eq0 c = λ what there.
    let labels = c.parts-parts.result.labels.now in let numbers = c.parts-parts.result.numbers.now in
    fails_mark c.args.frames.now.statements c.args.frames.now.names c.args.at c.args.items.now c.args.item c.args.results.now.results c.requires.stopped what there
    (mark_there labels numbers c.args.items.now c.args.item c.parts-parts.ensures what there c.requires.item c.if-number-eq0.true)

pub returns-then-number-len : goal.returns-then-number-len
returns-then-number-len c = λ what there.
    let labels = c.parts-parts.result.labels.now in let numbers = c.parts-parts.result.numbers.now in
    fails_recall c.args.frames.now.statements c.args.frames.now.names c.args.at c.args.items.now c.args.item c.args.results.now.results c.requires.stopped what _ c.recall_fault.result there
    (recall_there labels numbers c.args.items.now c.args.item c.parts-parts.ensures what _ there c.requires.item (let l = found-length c.args.frames.now.statements labels c.in_ok-positions.positions.items c.in_ok-positions.ensures.found in omega arith) (omega arith))
    c.recall_fault.ensures.marked c.recall_fault.ensures.unmarked

pub citation_fault-requires-clause-stuck : goal.citation_fault-requires-clause-stuck
citation_fault-requires-clause-stuck c =
    let S = c.args.frames.now.statements in let names = c.args.frames.now.names in let at = c.args.at in let items = c.args.items.now in let k = c.args.item in
    let labels = c.parts-parts.result.labels.now in let numbers = c.parts-parts.result.numbers.now in let n = get_or numbers k 0 in
    let positions = c.in_ok-positions.positions.items in
    let l = found-length S labels positions c.in_ok-positions.ensures.found in
    let p = rw c.in-Some.is at (position_at S labels positions (n - 1) c.index.result.now c.index.result.now c.in_ok-positions.ensures.found (omega arith) c.index.ensures) in
    let cites : slice_get items k ≡ Some (Cite (get_or labels (n - 1) [])) = cite_there labels numbers items k c.parts-parts.ensures c.requires.item c.if-number-eq0.false (omega arith) in
    cannot_cite S names at items k c.args.results.now.results c.requires.stopped (get_or labels (n - 1) []) c.in-Some.statement p.0 cites p.1

pub returns-in-Some : goal.returns-in-Some
returns-in-Some c = λ what there.
    let S = c.args.frames.now.statements in let names = c.args.frames.now.names in let at = c.args.at in let items = c.args.items.now in let k = c.args.item in
    let labels = c.parts-parts.result.labels.now in let numbers = c.parts-parts.result.numbers.now in let n = get_or numbers k 0 in
    let positions = c.in_ok-positions.positions.items in
    let l = found-length S labels positions c.in_ok-positions.ensures.found in
    let p = rw c.in-Some.is at (position_at S labels positions (n - 1) c.index.result.now c.index.result.now c.in_ok-positions.ensures.found (omega arith) c.index.ensures) in
    let cites : slice_get items k ≡ Some (Cite (get_or labels (n - 1) [])) = cite_there labels numbers items k c.parts-parts.ensures c.requires.item c.if-number-eq0.false (omega arith) in
    IfOk-weaker c.citation_fault.result _ _
    (λ fault fails. subst (λ w. IsItemFault S names at (held S names at items k c.args.results.now.results c.requires.stopped) w fault) (same_Some (Cite (get_or labels (n - 1) [])) what (sym cites ∙ there))
    (cited_fails S names at (held S names at items k c.args.results.now.results c.requires.stopped) c.in-Some.statement p.0 (get_or labels (n - 1) []) fault p.1 fails)) (c.citation_fault.ensures p.0 p.1.stands)

pub returns : goal.returns
returns c = λ what there.
    let S = c.args.frames.now.statements in let names = c.args.frames.now.names in let at = c.args.at in let items = c.args.items.now in let k = c.args.item in
    let labels = c.parts-parts.result.labels.now in let numbers = c.parts-parts.result.numbers.now in let n = get_or numbers k 0 in
    let positions = c.in_ok-positions.positions.items in
    let l = found-length S labels positions c.in_ok-positions.ensures.found in
    let p = rw c.in-None.is at (position_at S labels positions (n - 1) c.index.result.now c.index.result.now c.in_ok-positions.ensures.found (omega arith) c.index.ensures) in
    let cites : slice_get items k ≡ Some (Cite (get_or labels (n - 1) [])) = cite_there labels numbers items k c.parts-parts.ensures c.requires.item c.if-number-eq0.false (omega arith) in
    subst (λ w. IsItemFault S names at (held S names at items k c.args.results.now.results c.requires.stopped) w UnknownLabel) (same_Some (Cite (get_or labels (n - 1) [])) what (sym cites ∙ there)) p
