use Rattle.frame.proofs.Words.{◌+◌, ◌∙◌, ap, drop, with_floats}
use Rattle.frame.proofs.PairListLemmas.{floats-next, floats-skip}
use Rattle.frame.proofs.pair_buffer.record_variables.Goals as goal
use Rattle.frame.proofs.pair_buffer.record_variables.Goals.{in-Float+in_ok-add_number, in_default}

pub loop-i-preserved : goal.loop-i-preserved
loop-i-preserved c =
    let hs = c.args.hypotheses.now in
    let i = c.loop-i.i in
    elim c.match-get.branch [
      | in-Float+in_ok-add_number w ↦ rw w.found-is (record {
        found = ap (λ f. with_floats f (drop (i + 1) hs)) w.in_ok-add_number.ensures.added ∙ (floats-next hs i _ c.loop-i.found c.get.result c.get.ensures w.in-Float.is ∙ c.loop-i.invariant.found);
        once = w.in_ok-add_number.ensures.once c.loop-i.invariant.once;
      })
      | in_default w ↦ rw w.found-is (record { found = floats-skip hs i c.loop-i.found c.get.result c.get.ensures w.in_default.not-Float ∙ c.loop-i.invariant.found; once = c.loop-i.invariant.once })
    ]
