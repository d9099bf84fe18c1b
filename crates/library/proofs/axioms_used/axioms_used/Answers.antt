use Rattle.library.proofs.Words.{ap, refl, subst, Cites, ◌-◌, true, slice_set, arith, length, ◌∙◌, AreLabelsOf, IsMarkedAxiom, stands-within, lent-whole, sym, ◌+◌, ◌<◌, slice_get_read, ◌++◌, ◌∷◌, [], cond, Some, is_axiom, label_or_empty}
use Rattle.library.proofs.CitationWalkLemmas.{walk-start, step-pass, step-proof, walk-end, marks-proof, marks-nothing}
use Rattle.library.proofs.CitedByLemmas.{AreListed, no-axiom, listed-none, listed-more, listed-skip, listed-all, are-used}
use Rattle.library.proofs.axioms_used.axioms_used.Goals as goal
use Rattle.library.proofs.axioms_used.axioms_used.Goals.{then-index+in_ok-items+in-Some+in_ok-mark_cited-in-Some, then-index+in_ok-items+in-None, else-index, then-marked+in-Axiom+in_ok-copy+in_ok-push, then-marked+in_default, else-marked}

pub loop-position-init : goal.loop-position-init
loop-position-init c =
    let w = stands-within c.args.database.now c.args.at c.requires.0 c.requires.1.stands in
    walk-start c.args.database.now c.args.at _ w.0 (ap (λ ms. slice_set ms (c.args.at - 1) true) (c.in_ok-marks.ensures.items_if_clones_equal (λ y e. e)))

pub items_of-requires : goal.items_of-requires
items_of-requires c =
    let w = stands-within c.args.database.now c.args.at c.requires.0 c.requires.1.stands in
    (omega (arith, c.loop-position-test.true), omega (arith, c.loop-position.invariant.below, w.1))

pub loop-position-preserved : goal.loop-position-preserved
loop-position-preserved c =
    let S = c.args.database.now in
    let position = c.loop-position.position in
    let ms = c.loop-position.marks.items in
    elim c.if-index.branch [
      | then-index+in_ok-items+in-Some+in_ok-mark_cited-in-Some w ↦ step-proof S c.args.at position ms _ _ _ c.index.result.now c.statements-statements.ensures.good
          c.loop-position-test.true w.deref_mut.ensures.value (ap (λ v. v.items) w.marks-is ∙ lent-whole c.loop-position.marks.len w.mark_cited.new.marks ms (w.in_ok-mark_cited-in-Some.ensures.count ∙ ap length w.deref_mut.ensures.value) (let ok = c.loop-position.marks.ok in omega (arith, ok.0))) c.index.ensures w.if-index.true
          (let found = rw w.in-Some.is at w.in_ok-items.ensures in marks-proof S w.frames.result.now.statements w.frames.ensures.same position w.in-Some.items w.deref_mut.result.now w.mark_cited.new.marks found.0 w.in_ok-mark_cited-in-Some.ensures) c.loop-position.invariant
      | then-index+in_ok-items+in-None w ↦ step-proof S c.args.at position ms _ _ _ c.index.result.now c.statements-statements.ensures.good
          c.loop-position-test.true refl (ap (λ v. v.items) w.marks-is) c.index.ensures w.if-index.true
          (let none = rw w.in-None.is at w.in_ok-items.ensures in marks-nothing (Cites S position) ms (λ a cites. none cites.has.stmt cites.has.provable)) c.loop-position.invariant
      | else-index w ↦ step-pass S c.args.at position ms _ c.index.result.now c.statements-statements.ensures.good
          c.loop-position-test.true (ap (λ v. v.items) w.marks-is) c.index.ensures w.if-index.false c.loop-position.invariant
    ]

pub loop-index-init : goal.loop-index-init
loop-index-init c = subst (AreListed c.statements-statements.result.now c.deref-marked-items.result.now 0) (sym c.new-labels.ensures.items) (listed-none c.statements-statements.result.now c.deref-marked-items.result.now)

pub loop-index-preserved : goal.loop-index-preserved
loop-index-preserved c =
    let S = c.statements-statements.result.now in
    let ms = c.deref-marked-items.result.now in
    let index = c.loop-index.index in
    let few : index < length S = (
    let w = stands-within c.args.database.now c.args.at c.requires.0 c.requires.1.stands in
    omega (arith, c.loop-index-test.true, ap length c.statements-statements.ensures.statements, ap length c.deref-marked-items.ensures.value, c.loop-position.invariant.count, w.1)) in
    elim c.if-marked.branch [
      | then-marked+in-Axiom+in_ok-copy+in_ok-push w ↦ listed-more S ms index c.loop-index.labels.items c.if-marked.labels.items w.index-statements-index.result
          (slice_get_read S _ index w.index-statements-index.result refl few w.index-statements-index.is) w.if-marked.true
          (ap (λ v. v.items) w.labels-is ∙ (w.in_ok-push.ensures.items ∙ (ap (λ l. c.loop-index.labels.items ++ l ∷ []) w.in_ok-copy.ensures
          ∙ sym (ap (λ s. c.loop-index.labels.items ++ cond (is_axiom s) (label_or_empty (Some s) ∷ []) []) w.in-Axiom.is)))) c.loop-index.invariant
      | then-marked+in_default w ↦ listed-more S ms index c.loop-index.labels.items c.if-marked.labels.items w.index-statements-index.result
          (slice_get_read S _ index w.index-statements-index.result refl few w.index-statements-index.is) w.if-marked.true
          (ap (λ v. v.items) w.labels-is ∙ sym (no-axiom w.index-statements-index.result c.loop-index.labels.items w.in_default.not-Axiom)) c.loop-index.invariant
      | else-marked w ↦ subst (AreListed S ms (index + 1)) (sym (ap (λ v. v.items) w.labels-is)) (listed-skip S ms index c.loop-index.labels.items w.if-marked.false c.loop-index.invariant)
    ]

pub returns : goal.returns
returns c =
    let ms = c.loop-position.marks.items in
    let labels = c.loop-index.labels.items in
    are-used c.args.database.now c.args.at c.requires.0 ms labels c.requires.1 (walk-end c.args.database.now c.args.at c.loop-position.position ms (omega (arith, c.loop-position-test.false)) c.loop-position.invariant)
    (subst (λ S. AreLabelsOf S (IsMarkedAxiom S ms) labels) c.statements-statements.ensures.statements
    (subst (λ ms. AreLabelsOf c.statements-statements.result.now (IsMarkedAxiom c.statements-statements.result.now ms) labels) c.deref-marked-items.ensures.value
    (listed-all c.statements-statements.result.now c.deref-marked-items.result.now c.loop-index.index labels c.loop-index-test.false c.loop-index.invariant)))
