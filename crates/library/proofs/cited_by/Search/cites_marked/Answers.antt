use Rattle.library.proofs.Words.{◌≡◌, ◌↔◌, ◌++◌, ◌∙◌, true, false, Some, take, refl, sym, ap, subst, list_any, bare, items_of, mandatory_labels, is_marked, ItemsCiteMarked, on_ok}
use Rattle.library.proofs.ProvingLemmas.{has-assertion, stands-bare}
use Rattle.library.proofs.MayCiteLemmas.{meets-nothing}
use Rattle.library.proofs.MeetingLemmas.{labels-long, mandatory-wanted, tells-heading, tells-nothing, told-meets, listed-meets}
use Rattle.library.proofs.cited_by.Search.cites_marked.Goals as goal

pub returns-then-not-is_compressed : goal.returns-then-not-is_compressed
returns-then-not-is_compressed c =
    let p = c.requires in
    listed-meets c.args.database.now c.frames-frames.result.now.statements c.frames-frames.ensures.same c.frames-frames.ensures.good c.args.at p.0 c.args.tokens.now p.1 p.2 c.args.marks.now (sym c.is_compressed.ensures ∙ c.if-not-is_compressed.true)
    c.lists_marked.result c.lists_marked.ensures.none c.lists_marked.ensures.some

pub mandatory-requires-clause-assertion : goal.mandatory-requires-clause-assertion
mandatory-requires-clause-assertion c = has-assertion c.args.database.now c.frames-frames.result.now.statements c.args.at c.requires.0 c.frames-frames.ensures.same c.requires.1

pub returns-then-not-lists_marked : goal.returns-then-not-lists_marked
returns-then-not-lists_marked c =
    let p = c.requires in
    let listed = c.in_ok-mandatory.ensures.listed (bare p.0) (stands-bare c.args.database.now c.frames-frames.result.now.statements c.args.at p.0 c.frames-frames.ensures.same p.1) in
    meets-nothing c.args.database.now c.frames-frames.result.now.statements c.frames-frames.ensures.same c.frames-frames.ensures.once c.args.at p.0 p.1 c.args.marks.now c.args.tokens.now p.2
    (ap (list_any (λ position. is_marked c.args.marks.now (Some position))) (sym (c.deref.ensures.value ∙ listed)) ∙ (sym c.has_marked.ensures ∙ c.if-not-has_marked.true))
    (c.lists_marked-then-not-has_marked.ensures.none c.if-not-lists_marked.true)

pub returns-in_default : goal.returns-in_default
returns-in_default c =
    let p = c.requires in
    let F = c.frames-frames.result.now.statements in
    let listed = c.in_ok-mandatory.ensures.listed (bare p.0) (stands-bare c.args.database.now F c.args.at p.0 c.frames-frames.ensures.same p.1) in
    told-meets c.args.database.now F c.frames-frames.ensures.same c.frames-frames.ensures.good c.args.at p.0 c.args.tokens.now p.1 p.2 c.args.marks.now (sym c.is_compressed.ensures ∙ c.if-not-is_compressed.false) false
    (tells-nothing F c.args.tokens.now (mandatory_labels F c.args.at (bare p.0)) _ c.args.marks.now false
    (labels-long F c.args.at (bare p.0) c.as_slice-count.result.now (c.as_slice-count.ensures.value ∙ listed)) (rw c.in_default.is at c.in_ok-heading.ensures.read))

pub returns : goal.returns
returns c =
    let p = c.requires in
    let F = c.frames-frames.result.now.statements in
    let marks = c.args.marks.now in
    let labels = mandatory_labels F c.args.at (bare p.0) in
    let listed = c.in_ok-mandatory.ensures.listed (bare p.0) (stands-bare c.args.database.now F c.args.at p.0 c.frames-frames.ensures.same p.1) in
    on_ok c.numbers_cite_marked.result
    (λ found told. told-meets c.args.database.now F c.frames-frames.ensures.same c.frames-frames.ensures.good c.args.at p.0 c.args.tokens.now p.1 p.2 marks (sym c.is_compressed.ensures ∙ c.if-not-is_compressed.false) found
    (tells-heading c.args.tokens.now _ _ _ _ (rw c.in-Some.is at c.in_ok-heading.ensures.read) F labels marks found
    (labels-long F c.args.at (bare p.0) c.as_slice-count.result.now (c.as_slice-count.ensures.value ∙ listed))
    (subst (λ ns. found ≡ true ↔ ItemsCiteMarked F (items_of (labels ++ take c.in-Some.heading.count c.in-Some.heading.words) ns) marks) c.numbers.ensures
    (told labels (mandatory-wanted F marks c.args.at (bare p.0) c.deref-2.result.now _ (c.deref-2.ensures.value ∙ listed) refl)))))
    c.numbers_cite_marked.ensures
