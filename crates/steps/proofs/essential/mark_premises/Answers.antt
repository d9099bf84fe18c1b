use Rattle.steps.proofs.Words.{◌≡◌, ap, sym, ◌∙◌, subst, arith, length, get_or, length-map, slice_get-get_or, AreBelow, no_row, steps_of, premise_places, MarksMore, mark_each, below-more}
use Rattle.steps.proofs.DraftRowLemmas.{step-at}
use Rattle.steps.proofs.PremiseLemmas.{premises-below}
use Rattle.steps.proofs.EssentialMarkLemmas.{marked-on, each-more}
use Rattle.steps.proofs.essential.mark_premises.Goals as goal

pub bounds-marks-place : goal.bounds-marks-place
bounds-marks-place c =
    let l = c.requires.place in
    let m = c.requires.marks.count in
    let n = length-map c.args.table.now (λ r. r.step) in
    omega (arith, l, m, n)

pub mark_all-requires : goal.mark_all-requires
mark_all-requires c =
    let l = c.requires.place in
    let m = c.requires.marks.count in
    let n = length-map c.args.table.now (λ r. r.step) in
    let low = premises-below c.args.frames.now.statements c.args.at c.args.frames.now.names c.args.table.now c.args.place c.requires.rows c.requires.place in
    subst (AreBelow (length c.args.marks.now)) (sym (c.deref.ensures.value ∙ c.in_ok-premises.ensures)) (below-more c.args.place (length c.args.marks.now) _ (omega (arith, l, m, n)) low)

pub returns-in_ok-premises : goal.returns-in_ok-premises
returns-in_ok-premises c =
    let S = c.args.frames.now.statements in
    let rows = c.args.table.now in
    let old = c.args.marks.now in
    let step = (get_or rows c.args.place no_row).step in
    let l = c.requires.place in
    let m = c.requires.marks.count in
    let n = length-map rows (λ r. r.step) in
    let low = premises-below S c.args.at c.args.frames.now.names rows c.args.place c.requires.rows c.requires.place in
    let premises : c.deref.result.now ≡ premise_places S step = c.deref.ensures.value ∙ c.in_ok-premises.ensures in
    let new : c.mark_all.new.marks ≡ mark_each (premise_places S step) old = c.mark_all.ensures ∙ ap (λ ks. mark_each ks old) premises in
    marked-on S (steps_of rows) c.args.place step old c.mark_all.new.marks c.requires.marks c.if-marks-place.true (step-at rows c.args.place (get_or rows c.args.place no_row) (slice_get-get_or rows c.args.place no_row c.requires.place)) low
    (subst (λ v. MarksMore old v (premise_places S step)) (sym new) (each-more (premise_places S step) old (below-more c.args.place (length old) (premise_places S step) (omega (arith, l, m, n)) low)))
