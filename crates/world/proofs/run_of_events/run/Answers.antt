use Rattle.world.proofs.Words.{◌≡◌, List, ◌∷◌, ◌++◌, [], ap, sym, ◌∙◌, subst, append_assoc, into_iter_items, into_iter_steps, append-nil, nil_from_length, Yields-more, Entry, Event, value_event, value_events, carried_size, BeginsNew, new_history, Carried, Headline, refl, WorldView, taken_front, stops_there}
use Rattle.world.proofs.EntryLogs.{value_events-append}
use Rattle.world.proofs.HeadlineLemmas.{headline_holds}
use Rattle.world.proofs.WorldViewLemmas.{run_goes_on, step_taken}
use Rattle.world.proofs.run_of_events.run.Goals as goal

pub returns-in-Err-step-clause-stops : goal.returns-in-Err-step-clause-stops
returns-in-Err-step-clause-stops c =
    let it = c.into_iter-event-iterator.result in
    let done = c.loop-event.yielded in
    let e = c.in-Some.event in
    let rest = into_iter_items c.next.new.self in
    let more = Yields-more into_iter_steps it done c.loop-event.event-iterator e c.next.new.self c.loop-event.yielded_by c.in-Some.ensures.steps in
    let split : c.args.events.items ≡ done ++ e ∷ rest = sym c.into_iter-event-iterator.ensures.into_iter_gives.0 ∙ (taken_front it (done ++ e ∷ []) c.next.new.self more ∙ append_assoc done (e ∷ []) rest) in
    let cut : value_events c.args.events.items ≡ value_events done ++ value_event e ∷ value_events rest = ap (λ (es : List (Event Entry)). value_events es) split ∙ value_events-append done (e ∷ rest) in
    stops_there carried_size c.args.weights c.args.event_limit (value_events c.args.events.items) (value_events done) (value_events rest) (value_event e) c.loop-event.world.history c.step.new.self.history c.history.result.now c.in-Err-step.fault
    cut (ap (λ (r : WorldView). r.history) c.loop-event.invariant.world) (ap (λ (r : WorldView). r.history) c.in-Err-step.ensures.same) c.history.ensures.events c.history.ensures.headline.agreement.is_taken c.in-Err-step.ensures.refused c.in-Err-step.ensures.only_memory

pub loop-event-preserved : goal.loop-event-preserved
loop-event-preserved c = record {
  can = tt;
  finite = tt;
  world = run_goes_on c.args.weights c.args.event_limit c.args.work_limit c.loop-event.yielded c.in-Some.event c.loop-event.world c.step.new.self c.loop-event.invariant.world c.in_default.ensures.taken;
  taken = step_taken c.loop-event.world c.step.new.self (value_event c.in-Some.event) c.step.result _ c.in_default.ensures.taken c.in_default.is c.step.ensures.refused;
}

pub returns-clause-headline : goal.returns-clause-headline
returns-clause-headline c =
    let it = c.loop-event.event-iterator in
    let done = c.loop-event.yielded in
    let none : into_iter_items it ≡ [] = nil_from_length (into_iter_items it) (sym it.rest.ok.0 ∙ c.in-None.ensures.steps.0) in
    let whole : c.args.events.items ≡ done =
    sym c.into_iter-event-iterator.ensures.into_iter_gives.0 ∙ (taken_front c.into_iter-event-iterator.result done it c.loop-event.yielded_by
    ∙ (ap (λ (es : List (Event Entry)). done ++ es) none ∙ append-nil done)) in
    subst (Headline c.args.work_limit) (ap (λ (r : WorldView). r.history) c.loop-event.invariant.world ∙ ap (λ (es : List (Event Entry)). new_history c.args.weights c.args.event_limit (value_events es)) (sym whole))
    (headline_holds c.args.work_limit c.loop-event.world.history (subst (λ (r : WorldView). BeginsNew r.history) (sym c.loop-event.invariant.world) refl) c.loop-event.invariant.taken)
