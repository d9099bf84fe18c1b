use Rattle.steps.proofs.Words.{arith, below-at}
use Rattle.steps.proofs.essential.mark_all.Goals as goal

pub bounds-marks-place : goal.bounds-marks-place
bounds-marks-place c =
    let b = below-at _ c.args.list.now c.loop-place.place-index 0 c.requires c.loop-place-test.true in
    let a = c.loop-place.auto.marks in
    omega (arith, a, b)
