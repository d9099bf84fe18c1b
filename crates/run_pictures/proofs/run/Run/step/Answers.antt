use Rattle.run_pictures.proofs.Words.{◌∙◌, ◌++◌, ◌∷◌, [], List, ap, subst, value_event, RecordsEvent, RunView, Step}
use Rattle.run_pictures.proofs.RunLemmas.{event_recorded, step_is}
use Rattle.run_pictures.proofs.run.Run.step.Goals as goal

pub invariant_of-self-2 : goal.invariant_of-self-2
invariant_of-self-2 c =
    event_recorded c.self.inside.world c.step.new.self c.self.inside.steps.items c.push_reserved.new.self.items c.self.inside.posted c.in_ok-posted.posted (value_event c.args.event) c.ended.result
    c.self.invariant c.in_ok-posted.ensures.taken
    (c.push_reserved.ensures.items ∙ ap (λ (steps : List Step). steps ++ c.ended.result ∷ []) c.reserve.ensures.items)
    (step_is c.self.inside.world c.step.new.self (value_event c.args.event) c.in_ok-start.start c.in_ok-posted.posted c.log_len_at-log_len.result c.ended.result
    c.ended.ensures c.in_ok-start.ensures.start c.in_ok-posted.ensures.taken c.in_ok-posted.ensures.posted c.log_len_at-log_len.ensures)
    c.in_ok-posted.ensures.posted

pub returns-clause-taken : goal.returns-clause-taken
returns-clause-taken c =
    let new : RunView = record { world = c.step.new.self; steps = c.push_reserved.new.self.items } in
    subst (λ (old : RunView). RecordsEvent old (value_event c.args.event) new) c.self.view_is (record {
      taken = c.in_ok-posted.ensures.taken;
      recorded = c.push_reserved.ensures.items ∙ ap (λ (steps : List Step). steps ++ c.ended.result ∷ []) c.reserve.ensures.items
          ∙ ap (λ (s : Step). c.self.inside.steps.items ++ s ∷ []) (step_is c.self.inside.world c.step.new.self (value_event c.args.event) c.in_ok-start.start c.in_ok-posted.posted c.log_len_at-log_len.result c.ended.result
          c.ended.ensures c.in_ok-start.ensures.start c.in_ok-posted.ensures.taken c.in_ok-posted.ensures.posted c.log_len_at-log_len.ensures);
    })
