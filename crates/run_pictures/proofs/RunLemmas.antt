-- The recorded steps of a world when it takes a step.
use Rattle.run_pictures.proofs.Words.{◌≡◌, ℕ, ◌<◌, ◌≤◌, List, [], ◌∷◌, ◌++◌, Option, Some, None, Result, Ok, Err, IfOk, IfSome, IsSomeAnd, OnErr, length, slice_get, filter, refl, sym, subst, inl, inr, ◌∙◌, ap, cases_lt, Event, StepFault, NoNode, History, with_event, world_of, packets_after, Entry, Verdict, Carried, carried_size, NodeLibrary, WorldView, after_event, new_world, next_entry, IsApplied, Step, StepStart, ended_of, WorldOrFault, application_of, step_start_of, is_event, learned_by, node_of_step, step_of, steps_of, RunView, RecordsApplication, RecordsNext, AppliesOrNot, IsRecorded, packets_of}
use Rattle.run_pictures.proofs.StepsLemmas.{next_is, with_event_step, with_application_step}

-- a new world has no steps
pub new_recorded : (world : WorldView) (weights : List ℕ) (event_limit : ℕ) (work_limit : Option ℕ) → world ≡ new_world weights event_limit work_limit → IsRecorded world [] 0
new_recorded world weights event_limit work_limit is = record {
  events = ap (λ (r : WorldView). steps_of r.history) (sym is);
  count = ap (λ (r : WorldView). length (packets_of r)) (sym is);
}

-- the step of an event from its parts
pub step_is : (old new : WorldView) (e : Event Carried) (start : StepStart) (posted learned : ℕ) (step : Step)
    → step ≡ ended_of start posted learned
    → start ≡ step_start_of (length old.history.events) (world_of carried_size old.history) e
    → new ≡ after_event old e
    → posted ≡ length (packets_after (world_of carried_size new.history))
    → learned ≡ learned_by (world_of carried_size new.history) start.node
    → step ≡ step_of (length old.history.events) (world_of carried_size old.history) e (world_of carried_size (with_event old.history e))
step_is old new e start posted learned step ended begins taken counted learns =
    let same : new.history ≡ with_event old.history e = ap (λ (r : WorldView). r.history) taken in
    let reached : world_of carried_size new.history ≡ world_of carried_size (with_event old.history e) = ap (λ (t : History Carried). world_of carried_size t) same in
    let count : posted ≡ length (packets_after (world_of carried_size (with_event old.history e))) = counted ∙ ap (λ (r : WorldOrFault). length (packets_after r)) reached in
    let more : learned ≡ learned_by (world_of carried_size (with_event old.history e)) (node_of_step (world_of carried_size old.history) e) =
    learns ∙ (ap (λ (r : WorldOrFault). learned_by r start.node) reached
    ∙ ap (λ (b : StepStart). learned_by (world_of carried_size (with_event old.history e)) b.node) begins) in
    ended ∙ (ap (λ (b : StepStart). ended_of b posted learned) begins
    ∙ (ap (λ (n : ℕ). ended_of (step_start_of (length old.history.events) (world_of carried_size old.history) e) n learned) count
    ∙ ap (λ (n : ℕ). ended_of (step_start_of (length old.history.events) (world_of carried_size old.history) e) (length (packets_after (world_of carried_size (with_event old.history e)))) n) more))

-- an event is taken, and its step recorded
pub event_recorded : (old new : WorldView) (steps more : List Step) (posted count : ℕ) (e : Event Carried) (step : Step)
    → IsRecorded old steps posted → new ≡ after_event old e → more ≡ steps ++ step ∷ []
    → step ≡ step_of (length old.history.events) (world_of carried_size old.history) e (world_of carried_size (with_event old.history e))
    → count ≡ length (packets_of new) → IsRecorded new more count
event_recorded old new steps more posted count e step recorded taken added is counted = record {
  events = ap (λ ss. filter is_event ss) added ∙ with_event_step steps old.history e step recorded.events (is ∙ sym (next_is old.history e)) ∙ ap steps_of (sym (ap (λ (r : WorldView). r.history) taken));
  count = counted;
}

-- the history is unchanged, and no step is added
pub same_recorded : (old new : WorldView) (steps : List Step) (posted : ℕ) → IsRecorded old steps posted → new.history ≡ old.history → IsRecorded new steps posted
same_recorded old new steps posted recorded taken = record {
  events = recorded.events ∙ ap steps_of (sym taken);
  count = recorded.count ∙ ap (λ (t : History Carried). length (packets_of (record { history = t; work_limit = new.work_limit; libraries = new.libraries }))) (sym taken);
}

-- the history is unchanged, and the application of an entry is recorded
pub application_recorded : (old new : WorldView) (steps more : List Step) (posted k log_len slot : ℕ) (verdict : Verdict) (step : Step)
    → IsRecorded old steps posted → new.history ≡ old.history → more ≡ steps ++ step ∷ [] → step ≡ application_of k log_len slot verdict → IsRecorded new more posted
application_recorded old new steps more posted k log_len slot verdict step recorded taken added is = record {
  events = ap (λ ss. filter is_event ss) added ∙ with_application_step steps step (steps_of old.history) recorded.events (ap is_event is) ∙ ap steps_of (sym taken);
  count = recorded.count ∙ ap (λ (t : History Carried). length (packets_of (record { history = t; work_limit = new.work_limit; libraries = new.libraries }))) (sym taken);
}

-- what the world does with the next entry of a node's log
pub applies_or_not : (old new : WorldView) (k : ℕ) (o : Option (Option Entry)) (r : Result (Option Verdict) StepFault)
    → next_entry old k ≡ o → IfSome o (λ entry. IfOk r (λ (answer : Option Verdict). IsSomeAnd answer (λ verdict. IsApplied old k entry verdict new)))
    → (k < length old.history.weights → next_entry old k ≡ None → r ≡ Ok None) → (length old.history.weights ≤ k → r ≡ Err NoNode)
    → (next_entry old k ≡ None → new ≡ old) → IfOk r (λ answer. AppliesOrNot old k o answer new)
applies_or_not old new k None (Ok None) is applied none no_node same = same is
applies_or_not old new k None (Ok (Some verdict)) is applied none no_node same =
    elim (cases_lt k (length old.history.weights)) [ inl within ↦ let e : Ok (Some verdict) ≡ Ok None = none within is in cc | inr past ↦ let e : Ok (Some verdict) ≡ Err NoNode = no_node past in cc ]
applies_or_not old new k None (Err fault) is applied none no_node same = tt
applies_or_not old new k (Some entry) (Ok (Some verdict)) is applied none no_node same = applied
applies_or_not old new k (Some entry) (Ok None) is applied none no_node same = applied
applies_or_not old new k (Some entry) (Err fault) is applied none no_node same = tt

-- an application does not change the history
pub history_stays : (old new : WorldView) (k : ℕ) (o : Option (Option Entry)) (r : Result (Option Verdict) StepFault)
    → IfOk r (λ answer. AppliesOrNot old k o answer new) → OnErr r (new ≡ old) → new.history ≡ old.history
history_stays old new k None (Ok None) applied same = ap (λ (w : WorldView). w.history) applied
history_stays old new k None (Ok (Some verdict)) applied same = absurd applied
history_stays old new k (Some entry) (Ok None) applied same = absurd applied
history_stays old new k (Some entry) (Ok (Some verdict)) applied same = ap (λ (w : WorldView). w.history) applied.becomes
history_stays old new k o (Err fault) applied same = ap (λ (w : WorldView). w.history) same

-- the slot of an entry is the count of those that were applied before
slot_is : (o : Option NodeLibrary) (node_library : NodeLibrary) (slot : ℕ) → o ≡ Some node_library → IsSomeAnd o (λ l. slot ≡ l.applied) → slot ≡ node_library.applied
slot_is o node_library slot is counted = let P : Option NodeLibrary → Type 0 = λ m. IsSomeAnd m (λ l. slot ≡ l.applied) in subst P is counted

-- the application of the next entry is recorded with the verdict
pub records_next : (old new : RunView) (k log_len slot : ℕ) (o : Option (Option Entry)) (verdict : Verdict)
    → AppliesOrNot old.world k o (Some verdict) new.world → IsSomeAnd (slice_get old.world.libraries k) (λ l. slot ≡ l.applied)
    → log_len ≡ learned_by (world_of carried_size old.world.history) k → new.steps ≡ old.steps ++ application_of k log_len slot verdict ∷ [] → RecordsNext old k o new
records_next old new k log_len slot None verdict applied counted learned is = absurd applied
records_next old new k log_len slot (Some entry) verdict applied counted learned is = record {
  verdict = verdict;
  applied = applied;
  recorded = is ∙ ap (λ n. old.steps ++ application_of k n slot verdict ∷ []) learned
      ∙ ap (λ n. old.steps ++ application_of k (learned_by (world_of carried_size old.world.history) k) n verdict ∷ []) (slot_is (slice_get old.world.libraries k) applied.old_node_library slot applied.old_is counted);
}
