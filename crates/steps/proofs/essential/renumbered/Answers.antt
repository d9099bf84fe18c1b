use Rattle.steps.proofs.Words.{◌∷◌, ◌++◌, [], map, take, get_or, sym, ◌∙◌, ap, below-at}
use Rattle.steps.proofs.DraftLemmas.{map-more}
use Rattle.steps.proofs.essential.renumbered.Goals as goal

pub new_number-requires : goal.new_number-requires
new_number-requires c = below-at _ c.args.list.now c.loop-place.place-index 0 c.requires c.loop-place-test.true

pub loop-place-preserved : goal.loop-place-preserved
loop-place-preserved c =
    c.in_ok-push.ensures.items ∙ (ap (λ r. r ++ c.new_number.result ∷ []) c.loop-place.invariant
    ∙ (ap (λ p. map (λ k. get_or c.args.numbers.now k 0) (take c.loop-place.place-index c.args.list.now) ++ p ∷ []) c.new_number.ensures
    ∙ sym (map-more (λ k. get_or c.args.numbers.now k 0) c.args.list.now c.loop-place.place-index c.loop-place-test.true)))
