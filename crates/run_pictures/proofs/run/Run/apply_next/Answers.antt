use Rattle.run_pictures.proofs.Words.{◌∙◌, ◌++◌, ◌∷◌, [], List, Option, sym, ap, subst, next_entry, Verdict, AppliesOrNot, RecordsNext, RunView, Step, learned_of}
use Rattle.run_pictures.proofs.RunLemmas.{records_next}
use Rattle.run_pictures.proofs.run.Run.apply_next.Goals as goal

pub returns-clause-applied : goal.returns-clause-applied
returns-clause-applied c =
    let new : RunView = record { world = c.apply_on.new.world; steps = c.push_reserved.new.self.items } in
    let run : RunView = record { world = c.self.inside.world; steps = c.self.inside.steps.items } in
    subst (λ (old : RunView). RecordsNext old c.args.k (next_entry old.world c.args.k) new) c.self.view_is
    (records_next run new c.args.k c.in_ok-log_len.field-0.log_len c.in_ok-slot.slot (next_entry c.self.inside.world c.args.k) c.in-Some.verdict
    (subst (λ (answer : Option Verdict). AppliesOrNot c.self.inside.world c.args.k (next_entry c.self.inside.world c.args.k) answer c.apply_on.new.world) c.in-Some.is c.in_ok-verdict.ensures.applied)
    c.in_ok-slot.ensures.applied (sym (ap learned_of c.in_ok-log_len.ensures.state))
    (c.push_reserved.ensures.items ∙ ap (λ (steps : List Step). steps ++ c.application_step.result ∷ []) c.reserve.ensures.items
    ∙ ap (λ (s : Step). c.self.inside.steps.items ++ s ∷ []) c.application_step.ensures))
