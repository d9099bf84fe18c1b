use Rattle.steps.proofs.Words.{◌≡◌, ◌+◌, ◌<◌, ◌∷◌, ◌++◌, [], ap, sym, ◌∙◌, subst, arith, length, length-append, map, get_or, length-map, AreBelow, no_row, premise_places, marked_before, number_of, AreNumbers, kept_row, below-more, below-get}
use Rattle.steps.proofs.DraftRowLemmas.{row-same}
use Rattle.steps.proofs.PremiseLemmas.{premises-below}
use Rattle.steps.proofs.MarkedPlaceLemmas.{numbers-more, numbers-are, kept-more, kept-same, are-essential}
use Rattle.steps.proofs.essential.keep_marked.Goals as goal
use Rattle.steps.proofs.essential.keep_marked.Goals.{then-marks-place+in_ok-premises+in_ok-taken+in_ok-push-2, else-marks-place}

pub bounds-marks-place : goal.bounds-marks-place
bounds-marks-place c =
    let within : c.loop-place.place < length c.args.table.now = (let t = c.loop-place-test.true in let n = c.len-place-end.ensures in omega (arith, t, n)) in
    let count = c.requires.marks.count in
    let steps = length-map c.args.table.now (λ r. r.step) in
    omega (arith, within, count, steps)

pub renumbered-requires : goal.renumbered-requires
renumbered-requires c =
    let place = c.loop-place.place in
    let low = premises-below c.args.frames.now.statements c.args.at c.args.frames.now.names c.args.table.now place c.requires.rows (let t = c.loop-place-test.true in let n = c.len-place-end.ensures in omega (arith, t, n)) in
    let count = c.loop-place.invariant.0.count in
    let longer = ap length (c.deref-then-marks-place.ensures.value ∙ c.in_ok-push.ensures.items) in
    let more = length-append c.loop-place.numbers.items (c.len.result ∷ []) in
    subst (AreBelow (length c.deref-then-marks-place.result.now)) (sym (c.deref.ensures.value ∙ c.in_ok-premises.ensures)) (below-more place (length c.deref-then-marks-place.result.now) _ (omega (arith, count, longer, more)) low)

pub loop-place-preserved : goal.loop-place-preserved
loop-place-preserved c =
    let S = c.args.frames.now.statements in
    let rows = c.args.table.now in
    let marks = c.args.marks.now in
    let place = c.loop-place.place in
    let f = kept_row S rows marks in
    let is = c.loop-place.invariant.1 in
    let within : place < length rows = (let t = c.loop-place-test.true in let n = c.len-place-end.ensures in omega (arith, t, n)) in
    let low = premises-below S c.args.at c.args.frames.now.names rows place c.requires.rows within in
    let number : c.len.result ≡ number_of marks place = c.len.ensures ∙ (ap length is ∙ length-map (marked_before marks place) f) in
    let numbers : AreNumbers marks (place + 1) c.push.new.self.items = subst (AreNumbers marks (place + 1)) (sym c.in_ok-push.ensures.items) (numbers-more marks place c.len.result c.loop-place.numbers.items c.loop-place.invariant.0 number) in (
      numbers,
      elim c.if-marks-place.branch [
        | then-marks-place+in_ok-premises+in_ok-taken+in_ok-push-2 w ↦
            let ks = premise_places S (get_or rows place no_row).step in
            let premises : w.deref.result.now ≡ ks = w.deref.ensures.value ∙ w.in_ok-premises.ensures in
            let taken : w.in_ok-taken.taken.items ≡ map (number_of marks) ks =
            w.in_ok-taken.ensures
            ∙ (ap (λ v. map (λ k. get_or v k 0) w.deref.result.now) w.deref-then-marks-place.ensures.value
            ∙ (ap (map (λ k. get_or c.push.new.self.items k 0)) premises
            ∙ numbers-are marks (place + 1) c.push.new.self.items ks numbers (λ i x e. (let b = below-get place ks i x low e in omega (arith, b))))) in
            kept-more marks f place c.loop-place.kept c.if-marks-place.kept w.if-marks-place.true is (w.kept-is ∙ (w.in_ok-push-2.ensures ∙ ap (λ r. c.loop-place.kept ++ r ∷ []) (row-same _ _ _ _ _ _ w.position.ensures taken w.expr.ensures)))
        | else-marks-place w ↦ subst (λ r. r ≡ map f (marked_before marks (place + 1))) (sym w.kept-is) (kept-same marks f place c.loop-place.kept w.if-marks-place.false is)
      ],
    )

pub returns : goal.returns
returns c =
    let past = c.loop-place-test.false in
    let end = c.loop-place.auto.place-end in
    let n = c.len-place-end.ensures in
    are-essential c.args.frames.now.statements c.args.table.now c.args.marks.now c.requires.marks c.loop-place.place c.loop-place.kept (omega (arith, past, end, n)) c.loop-place.invariant.1
