use Rattle.world.proofs.Words.{length, ap, sym, ◌∙◌, subst, refl, BeginsNew, History, Carried}
use Rattle.world.proofs.WorldViewLemmas.{new_are_libraries}
use Rattle.world.proofs.world.World.new.Goals as goal

pub invariant_of-result : goal.invariant_of-result
invariant_of-result c =
    new_are_libraries c.args.work_limit c.in_ok-new.field-0.history (subst (λ (t : History Carried). BeginsNew t) (sym c.in_ok-new.ensures.new) refl) c.count.result (c.count.ensures.count ∙ sym (ap (λ (t : History Carried). length t.weights) c.in_ok-new.ensures.new))
    c.in_ok-new_libraries.field-0.items c.in_ok-new_libraries.ensures
