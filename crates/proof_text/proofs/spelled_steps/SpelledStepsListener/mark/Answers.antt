use Rattle.std.proofs.Common.{◌≡◌, ◌-◌, ◌<◌, length, take, get_or, refl, arith, ap, ◌∙◌}
use Rattle.steps.specs.Rows.{steps_of}
use Rattle.steps.specs.StepTable.{progress}
use Rattle.proof_text.proofs.SpelledLemmas.{hears-mark}
use Rattle.proof_text.proofs.spelled_steps.SpelledStepsListener.mark.Goals as goal

pub returns : goal.returns
returns c =
    let old = c.args.self.now in let k = c.index-place.result.now in
    let l : c.len-len.result ≡ length old.stack.items = omega (arith, c.len-len.ensures) in
    let some : 0 < length old.stack.items = omega arith in
    hears-mark old (record old { saved = c.push.new.self }) k k some (c.index-place.ensures ∙ ap (λ n. get_or old.stack.items (n - 1) k) l)
    (ap (λ xs. progress (take old.count (steps_of old.table.now)) old.stack.items xs) c.in_ok-push.ensures.items) refl refl
