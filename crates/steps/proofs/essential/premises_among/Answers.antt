use Rattle.steps.proofs.Words.{ap, ◌∙◌, get_or_from_slice_get, slice_get_within}
use Rattle.steps.proofs.PremiseLemmas.{float-step, essential-step}
use Rattle.steps.proofs.essential.premises_among.Goals as goal
use Rattle.steps.proofs.essential.premises_among.Goals.{in-Float, in-Essential+in_ok-push-in-Essential}

pub loop-k-preserved : goal.loop-k-preserved
loop-k-preserved c =
    let hs = c.args.hypotheses.now in
    let k = c.loop-k.k in
    let h = c.get.result in
    let less = slice_get_within hs k h c.get.ensures in
    let there = get_or_from_slice_get hs k h h c.get.ensures in
    elim c.match-get.branch [
      | in-Float w ↦ float-step hs c.args.taken.now k h _ c.loop-k.list.items c.match-get.list.items _ c.requires less (there ∙ w.in-Float.is) (ap (λ v. v.items) w.list-is) c.loop-k.invariant
      | in-Essential+in_ok-push-in-Essential w ↦ essential-step hs c.args.taken.now k h _ c.loop-k.list.items c.match-get.list.items _ c.requires less (there ∙ w.in-Essential.is) (ap (λ v. v.items) w.list-is ∙ w.in_ok-push-in-Essential.ensures.items) c.loop-k.invariant
    ]
