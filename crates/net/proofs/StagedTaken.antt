-- Taking a staged event, and the clauses of an answer.
use Rattle.net.proofs.Words.{◌≡◌, ℕ, ◌<◌, ◌≤◌, List, [], ◌∷◌, ◌++◌, length, get_or, set, slice_get, Some, None, Result, Ok, Err, true, false, if◌then◌else◌, refl, ap, sym, ◌∙◌, subst, arith, append-nil, IfOk, IfErr, IsOk, OnOk, is_ok, AllocError, slice_get_within, slice_get_read, AllByRecursion, Packet, IsPost, Node, StepResult, Core, Event, StepFault, Memory, World, after_step, event_result_without_limit, History, AreOfWorld, StagedWork, steps, restarts, StagedEvent, posts_of, step_of, IsReadyAt, NetView, IsStaged, IsTaken, IsStagingResultInNet, all_append}
use Rattle.net.proofs.HistoryLemmas.{makes}
use Rattle.net.proofs.EventsStaged.{nodes_found}

-- A staged event is taken.

-- the posts of staged work are those of its step
pub posts_same : {V : Type 0} (c : Core V) (w : StagedWork V) → IsReadyAt c w → posts_of w ≡ (step_of w c.node).posts
posts_same c (steps made) h = refl
posts_same c (restarts posts None) h = h
posts_same c (restarts posts (Some kept)) h = h.0

-- if adding did not fail, the new list is the old one followed by the additions
pub taken_in : {A : Type 0} (r : Result (Unit {0}) AllocError) (old more new : List A) → IsOk r → new ≡ (if is_ok r then old ++ more else old) → new ≡ old ++ more
taken_in (Ok done) old more new ok e = e
taken_in (Err fault) old more new ok e = let no : false ≡ true = ok in cc

module _ {V : Type 0} (size : V → ℕ) (view now : NetView V) (seen : view ≡ now) (h : AreOfWorld size view.history view.cores view.packets) (low : length now.history.events < now.history.event_limit) (staged : StagedEvent V) (ready : IsStaged size now staged)
    (k : ℕ) (is_at : k ≡ staged.at) (core new : Core V) (is : core ≡ get_or view.cores k core) (work : StagedWork V) (is_work : work ≡ staged.work) (node : new.node ≡ (step_of work core.node).node) where
  -- the event is staged in the view of the fields
  staged_view : IsStaged size view staged
  staged_view = subst (λ (n : NetView V). IsStaged size n staged) (sym seen) ready

  -- the core that is read is at the number of the staged event's node
  core_is : slice_get view.cores staged.at ≡ Some core
  core_is = slice_get_read view.cores (length view.cores) staged.at core refl (slice_get_within view.cores staged.at staged_view.core staged_view.at) (is ∙ ap (λ (i : ℕ). get_or view.cores i core) is_at)

  -- the core that is read is the one at which the event is staged
  same_core : staged_view.core ≡ core
  same_core = let both : Some staged_view.core ≡ Some core = sym staged_view.at ∙ core_is in cc

  abbrev step : StepResult V
  step = step_of staged.work staged_view.core.node

  -- the new core has the node of the staged step
  new_node : new.node ≡ step.node
  new_node = node ∙ ap (λ (w : StagedWork V). (step_of w core.node).node) is_work ∙ ap (λ (c : Core V). (step_of staged.work c.node).node) (sym same_core)

  -- in the world before, the result of the event is the staged step
  happens_is : event_result_without_limit size h.world staged.event ≡ Ok (after_step h.world staged.at step)
  happens_is =
      (staged_view.has_result h.world [] (h.posted ∙ sym (append-nil view.packets))
      (ap (λ (ns : List (Node V)). slice_get ns staged.at) h.nodes ∙ nodes_found view.cores staged.at staged_view.core staged_view.at)).event_result

  -- there is a core for the node of the staged event
  pub can_index : k < length view.cores
  can_index = let low_at = slice_get_within view.cores staged.at staged_view.core staged_view.at in omega (arith, low_at, is_at)

  -- the work is ready at the core that is read
  pub ready_here : IsReadyAt core work
  ready_here = subst (λ (w : StagedWork V). IsReadyAt core w) (sym is_work) (subst (λ (c : Core V). IsReadyAt c staged.work) same_core staged_view.ready)

  module _ (packets : List (Packet V)) (events : List (Event V)) (added : packets ≡ view.packets ++ posts_of work) (pushed : events ≡ view.history.events ++ staged.event ∷ []) where
    -- the packets are the old ones followed by the posts of the staged event
    packets_are : packets ≡ view.packets ++ posts_of staged.work
    packets_are = added ∙ ap (λ (w : StagedWork V). view.packets ++ posts_of w) is_work

    -- the new cores and packets are of the world after the history with the staged event
    pub commit_world : AreOfWorld size (record { weights = view.history.weights; event_limit = view.history.event_limit; begins = view.history.begins; events = events }) (set view.cores k new) packets
    commit_world =
        let made = makes size view.history view.cores view.packets h (subst (λ (n : NetView V). length n.history.events < n.history.event_limit) (sym seen) low) staged.event staged.at new step happens_is packets new_node
        (packets_are ∙ ap (λ (ps : List (Packet V)). view.packets ++ ps) (posts_same staged_view.core staged.work staged_view.ready))
        (subst (λ (ps : List (Packet V)). AllByRecursion (IsPost (length view.history.weights)) ps) (sym packets_are) (all_append (IsPost (length view.history.weights)) view.packets (posts_of staged.work) h.posts staged_view.posts)) in
        subst (λ (i : ℕ). AreOfWorld size (record { weights = view.history.weights; event_limit = view.history.event_limit; begins = view.history.begins; events = events }) (set view.cores i new) packets) (sym is_at)
        (subst (λ (es : List (Event V)). AreOfWorld size (record { weights = view.history.weights; event_limit = view.history.event_limit; begins = view.history.begins; events = es }) (set view.cores staged.at new) packets) (sym pushed) made)

    -- the staged event is taken, from the fields before to those after
    pub commit_taken : (packet_capacity event_capacity : ℕ) → view.packet_capacity ≤ packet_capacity → view.event_capacity ≤ event_capacity
        → IsTaken now (record { history = record { weights = view.history.weights; event_limit = view.history.event_limit; begins = view.history.begins; events = events }; cores = set view.cores k new; packets = packets; packet_capacity = packet_capacity; event_capacity = event_capacity }) staged
    commit_taken packet_capacity event_capacity p e =
        let next : NetView V = record { history = record { weights = view.history.weights; event_limit = view.history.event_limit; begins = view.history.begins; events = events }; cores = set view.cores k new; packets = packets; packet_capacity = packet_capacity; event_capacity = event_capacity } in
        subst (λ (n : NetView V). IsTaken n next staged) seen record {
          old_core = staged_view.core;
          at = staged_view.at;
          core = new;
          node = new_node;
          cores = ap (λ (i : ℕ). set view.cores i new) is_at;
          history = ap (λ (es : List (Event V)). let t : History V = record { weights = view.history.weights; event_limit = view.history.event_limit; begins = view.history.begins; events = es } in t) pushed;
          packets = packets_are;
          packet_capacity = p;
          event_capacity = e;
        }

-- The clauses of an answer.

module _ {V : Type 0} (size : V → ℕ) (net : NetView V) (e : Event V) where
  -- if the answer is an event, it is staged
  pub result_staged : (r : Result (World V) StepFault) (result : Result (StagedEvent V) StepFault) → IsStagingResultInNet size net e r result → IfOk result (IsStaged size net)
  result_staged (Ok w) (Ok staged) h = h.0
  result_staged (Err met) (Ok staged) h = elim h [ ]
  result_staged r (Err fault) h = tt

  -- the event in the answer is the one that was passed
  pub gives_event : (r : Result (World V) StepFault) (staged : StagedEvent V) → IsStagingResultInNet size net e r (Ok staged) → staged.event ≡ e
  gives_event (Ok w) staged h = h.1
  gives_event (Err met) staged h = elim h [ ]

  -- if the answer is an event, the event meets no fault
  pub gives_none : (r : Result (World V) StepFault) (staged : StagedEvent V) (P : StepFault → Type 0) → IsStagingResultInNet size net e r (Ok staged) → IfErr r P
  gives_none (Ok w) staged P h = tt
  gives_none (Err met) staged P h = elim h [ ]

  -- if the answer is a fault and the event meets one, it is that one
  pub gives_met : (r : Result (World V) StepFault) (fault : StepFault) → IsStagingResultInNet size net e r (Err fault) → IfErr r (λ met. fault ≡ met)
  gives_met (Ok w) fault h = tt
  gives_met (Err met) fault h = h

  -- if the answer is a fault and the event meets none, it is Memory
  pub gives_memory : (r : Result (World V) StepFault) (fault : StepFault) → IsStagingResultInNet size net e r (Err fault) → OnOk r (fault ≡ Memory)
  gives_memory (Ok w) fault h = h
  gives_memory (Err met) fault h = tt
