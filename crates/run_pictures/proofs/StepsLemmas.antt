-- One more event makes one more step.
use Rattle.run_pictures.proofs.Words.{◌≡◌, ℕ, suc, ◌+◌, true, false, List, [], ◌∷◌, ◌++◌, Result, Ok, Err, length, filter, refl, sym, ◌∙◌, ap, arith, append-nil, filter-append, Event, Offer, Begin, Deliver, Restart, StepFault, events_result, History, with_event, world_of, Carried, carried_size, Step, WorldOrFault, after_one_more, step_of, steps_from, steps_of, act_of, is_event, is_event_act}

-- after a fault, further events give the same fault
fault_stays : (es : List (Event Carried)) (fault : StepFault) → events_result carried_size es (Err fault) ≡ Err fault
fault_stays [] fault = refl
fault_stays (e ∷ es) fault = refl

-- the first event happens before the others
first_happens : (e : Event Carried) (es : List (Event Carried)) (r : WorldOrFault) → events_result carried_size es (after_one_more r e) ≡ events_result carried_size (e ∷ es) r
first_happens e es (Ok w) = refl
first_happens e es (Err fault) = fault_stays es fault

-- the last event happens after the others
last_happens : (es : List (Event Carried)) (e : Event Carried) (r : WorldOrFault) → events_result carried_size (es ++ e ∷ []) r ≡ after_one_more (events_result carried_size es r) e
last_happens [] e r = refl
last_happens (x ∷ es) e (Ok w) = last_happens es e (after_one_more (Ok w) x)
last_happens (x ∷ es) e (Err fault) = refl

-- the steps of the events with one more event end with the step of that event
steps_from-append : (index : ℕ) (r : WorldOrFault) (es : List (Event Carried)) (e : Event Carried)
    → steps_from index r (es ++ e ∷ [])
    ≡ steps_from index r es ++ step_of (index + length es) (events_result carried_size es r) e (after_one_more (events_result carried_size es r) e) ∷ []
steps_from-append index r [] e = ap (λ n. step_of n r e (after_one_more r e) ∷ []) (omega arith)
steps_from-append index r (x ∷ es) e =
    ap (λ steps. step_of index r x (after_one_more r x) ∷ steps) (steps_from-append (suc index) (after_one_more r x) es e
    ∙ ap (λ n. steps_from (suc index) (after_one_more r x) es ++ step_of n (events_result carried_size es (after_one_more r x)) e (after_one_more (events_result carried_size es (after_one_more r x)) e) ∷ []) (omega arith)
    ∙ ap (λ s. steps_from (suc index) (after_one_more r x) es ++ step_of (index + length (x ∷ es)) s e (after_one_more s e) ∷ []) (first_happens x es r))

-- the act of an event passes the test for events
is_event-act_of : (index : ℕ) (e : Event Carried) → is_event_act (act_of index e) ≡ true
is_event-act_of index (Offer k v) = refl
is_event-act_of index (Begin k) = refl
is_event-act_of index (Deliver number) = refl
is_event-act_of index (Restart k) = refl

-- the step of one more event after a history
pub next_step : History Carried → Event Carried → Step
next_step history e = step_of (length history.events) (world_of carried_size history) e (world_of carried_size (with_event history e))

-- the definition of `next_step`
pub next_is : (history : History Carried) (e : Event Carried) → next_step history e ≡ step_of (length history.events) (world_of carried_size history) e (world_of carried_size (with_event history e))
unfolding next_step
next_is history e = refl

steps_of-with_event : (history : History Carried) (e : Event Carried) → steps_of (with_event history e) ≡ steps_of history ++ next_step history e ∷ []
unfolding next_step
steps_of-with_event history e =
    steps_from-append 0 (events_result carried_size [] (world_of carried_size (record { weights = history.weights; event_limit = history.event_limit; begins = history.begins; events = [] }))) history.events e
    ∙ ap (λ n. steps_of history ++ step_of n (world_of carried_size history) e (after_one_more (world_of carried_size history) e) ∷ []) (omega arith)
    ∙ ap (λ s. steps_of history ++ step_of (length history.events) (world_of carried_size history) e s ∷ []) (sym (last_happens history.events e (world_of carried_size (record { weights = history.weights; event_limit = history.event_limit; begins = history.begins; events = [] }))))

-- the filter keeps the step of an event
kept_one : (s : Step) → is_event s ≡ true → filter is_event (s ∷ []) ≡ s ∷ []
kept_one s e = rw e refl

-- the events among the recorded steps are the steps of the history with one more event
pub with_event_step : (steps : List Step) (history : History Carried) (e : Event Carried) (step : Step)
    → filter is_event steps ≡ steps_of history → step ≡ next_step history e → filter is_event (steps ++ step ∷ []) ≡ steps_of (with_event history e)
unfolding next_step
with_event_step steps history e step recorded is =
    filter-append is_event steps (step ∷ [])
    ∙ ap (λ more. filter is_event steps ++ more) (kept_one step (ap (λ s. is_event s) is ∙ is_event-act_of (length history.events) e))
    ∙ ap (λ done. done ++ step ∷ []) recorded
    ∙ ap (λ s. steps_of history ++ s ∷ []) is
    ∙ sym (steps_of-with_event history e)

-- the filter drops the application of an entry
pub with_application_step : (steps : List Step) (step : Step) (all : List Step)
    → filter is_event steps ≡ all → is_event step ≡ false → filter is_event (steps ++ step ∷ []) ≡ all
with_application_step steps step all recorded is = filter-append is_event steps (step ∷ []) ∙ rw is (rw recorded (append-nil all))
