use Rattle.steps.proofs.Words.{◌≡◌, ap, sym, ◌∙◌, subst, arith, length, length-map, steps_of, mark_last, AreMarkedFrom}
use Rattle.steps.proofs.EssentialMarkLemmas.{marked-last, marks-exact}
use Rattle.steps.proofs.essential.marks_of.Goals as goal

pub loop-place-init : goal.loop-place-init
loop-place-init c =
    let S = c.args.frames.now.statements in
    let steps = steps_of c.args.table.now in
    let e : c.len-count.result ≡ length steps = c.len-count.ensures ∙ sym (length-map c.args.table.now (λ r. r.step)) in
    subst (λ n. AreMarkedFrom S steps n c.in_ok-marks.marks.items) (sym e) (marked-last S steps c.in_ok-marks.marks.items (c.in_ok-marks.ensures ∙ ap mark_last e))

pub returns : goal.returns
returns c =
    let S = c.args.frames.now.statements in
    let steps = steps_of c.args.table.now in
    let l = c.loop-place-test.false in
    let e : c.loop-place.place ≡ 0 = omega (arith, l) in
    marks-exact S steps c.loop-place.marks.items (subst (λ n. AreMarkedFrom S steps n c.loop-place.marks.items) e c.loop-place.invariant)
