use Rattle.std.proofs.Common.{◌<◌, length, take, refl, arith, ap}
use Rattle.steps.specs.Rows.{steps_of}
use Rattle.steps.specs.StepTable.{progress}
use Rattle.proof_text.proofs.SpelledLemmas.{hears-recall}
use Rattle.proof_text.proofs.spelled_steps.SpelledStepsListener.recall.Goals as goal

pub returns : goal.returns
returns c =
    let old = c.args.self.now in let k = c.index-place.result.now in
    let there : c.args.index < length old.saved.items = omega arith in
    hears-recall old (record old { walk = c.next.new.self; stack = c.push.new.self }) c.args.index k k there c.index-place.ensures
    (ap (λ xs. progress (take old.count (steps_of old.table.now)) xs old.saved.items) c.in_ok-push.ensures.items) refl refl
