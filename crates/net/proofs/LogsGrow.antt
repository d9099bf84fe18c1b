-- A log only grows: a step of a node learns only at an empty slot, and nothing is forgotten except
-- at a restart.
use Rattle.net.proofs.Words.{◌≡◌, ◌≢◌, ℕ, zero, suc, ◌-◌, ◌^◌, ◌==◌, ◌&&◌, not, nat_lt, Bool, true, false, List, [], ◌∷◌, ◌++◌, length, Option, Some, None, Result, Ok, Err, refl, ap, sym, ◌∙◌, subst, slice_get, if◌then◌else◌, append-nil, arith, nat_tests, SLOTS, entry_at, put_at, entries_to_gap, Ballot, Packet, SlotReport, Body, Prepare, Promise, Accept, Accepted, Nack, Ask, Told, MAX_WAITING, Heard, Role, Idle, Preparing, Leading, Refusal, Busy, LogFull, RoundsSpent, TooLong, MAX_VALUE_BYTES, is_below, is_same, is_quorum, are_received, Node, StepResult, unchanged, pages_from, with_page, is_heard, log_of, log_length, promises, sends_nack, accepts_value, waits, proposes_value, offer_waits, offer_as, offer_result, next_round, begins, begin_result, top_or_first, all_reports, leads, adds_page, completes_promise, on_complete_promise, on_promise_page, on_promise_as, is_at, idles, has_voter, counted, learns_chosen, on_accepted_at, on_ask_at, on_told_at, on_body, on_packet, restarted, Event, Offer, Begin, Deliver, Restart, World, after_step, after_step_or_fault, at_node, delivered, event_result_without_limit, event_result, log_at, log, IsPrefixOf, LogsOnlyGrow, RestartEmptiesLog}
use Rattle.net.proofs.EveryEvent.{IfTaken, if_taken, spent_or}
use Rattle.net.proofs.GrowingLists.{at_set, at_set_other}

-- if an entry is put at an empty slot, the old log is a prefix of the new one
log-put : {T : Type 0} (xs : List (Option T)) (s : ℕ) (v : T) → entry_at xs s ≡ None → IsPrefixOf (entries_to_gap xs) (entries_to_gap (put_at xs s v))
log-put [] s v empty = (entries_to_gap (put_at [] s v), refl)
log-put (None ∷ xs) s v empty = (entries_to_gap (put_at (None ∷ xs) s v), refl)
log-put (Some x ∷ xs) zero v empty = cc
log-put (Some x ∷ xs) (suc s) v empty = let more = log-put xs s v empty in (more.0, ap (λ ys. x ∷ ys) more.1)

-- the log before the step is a prefix of the log after it
abbrev LogGrows : {V : Type 0} → Node V → StepResult V → Type 0
LogGrows n step = IsPrefixOf (log_of n) (log_of step.node)

-- the log before the step is a prefix of the log after it, if the step is not refused
abbrev LogGrowsOnOk : {V : Type 0} → Node V → Result (StepResult V) Refusal → Type 0
LogGrowsOnOk n (Ok step) = LogGrows n step
LogGrowsOnOk n (Err refusal) = Unit {0}

-- if each of two steps extends the log or leaves it, so does the one that a test picks
either : {V : Type 0} (n : Node V) (one other : StepResult V) (t : Bool) → LogGrows n one → LogGrows n other → LogGrows n (if t then one else other)
either n one other true h k = h
either n one other false h k = k

-- if each of two answers extends the log or leaves it, unless it is a refusal, so does the one that
-- a test picks
either_ok : {V : Type 0} (n : Node V) (one other : Result (StepResult V) Refusal) (t : Bool) → LogGrowsOnOk n one → LogGrowsOnOk n other → LogGrowsOnOk n (if t then one else other)
either_ok n one other true h k = h
either_ok n one other false h k = k

module _ {V : Type 0} (n : Node V) where
  -- a log is a prefix of itself
  same : IsPrefixOf (log_of n) (log_of n)
  same = ([], append-nil (log_of n))

  -- an offer to a node that does not lead leaves the log
  offer_waits_grows : (v : V) → LogGrowsOnOk n (offer_waits n v)
  offer_waits_grows v = either_ok n (Err LogFull) (if nat_lt (length n.waiting) MAX_WAITING then Ok (waits n v) else Err Busy) (log_length n == SLOTS) tt
      (either_ok n (Ok (waits n v)) (Err Busy) (nat_lt (length n.waiting) MAX_WAITING) same tt)

  -- an offer leaves the log, in each role
  offer_as_grows : (role : Role) (v : V) → LogGrowsOnOk n (offer_as role n v)
  offer_as_grows Idle v = offer_waits_grows v
  offer_as_grows (Preparing b first) v = offer_waits_grows v
  offer_as_grows (Leading b next) v = either_ok n (Err LogFull) (Ok (proposes_value n b next v)) (next == SLOTS) tt same

  -- an offer leaves the log, whether or not it is refused for its length
  offered_grows : (size : V → ℕ) (v : V) → LogGrowsOnOk n (offer_result size n v)
  offered_grows size v = either_ok n (Err TooLong) (offer_as n.role n v) (nat_lt MAX_VALUE_BYTES (size v)) tt (offer_as_grows n.role v)

  -- a begin leaves the log
  begun_grows : LogGrowsOnOk n (begin_result n)
  begun_grows = either_ok n (Ok (begins n)) (Err RoundsSpent) (nat_lt (next_round n) (2 ^ 64)) same tt

  abbrev heard_with : ℕ → ℕ → List Heard
  heard_with p count = n.heard ++ record { node = p; count = count } ∷ []

  -- completing a promise leaves the log
  hears_grows : (b : Ballot) (first : ℕ) (pages : List (List (Option (List (SlotReport V))))) (heard : List Heard) → LogGrows n (on_complete_promise n b first pages heard)
  hears_grows b first pages heard = either n (leads n b first (all_reports pages heard) (top_or_first first (all_reports pages heard))) (completes_promise n pages heard) (is_quorum n.weights (is_heard heard)) same same

  -- gathering a page leaves the log
  gathers_grows : (p : ℕ) (b : Ballot) (first count : ℕ) (pages : List (List (Option (List (SlotReport V))))) → LogGrows n (on_promise_page n p b first count pages)
  gathers_grows p b first count pages = either n (on_complete_promise n b first pages (heard_with p count)) (adds_page n pages) (are_received (pages_from pages p) count)
      (hears_grows b first pages (heard_with p count)) same

  -- a Promise leaves the log, in each role
  promise_grows : (role : Role) (p : ℕ) (b : Ballot) (page count : ℕ) (reports : List (SlotReport V)) → LogGrows n (on_promise_as role n p b page count reports)
  promise_grows Idle p b page count reports = same
  promise_grows (Leading c next) p b page count reports = same
  promise_grows (Preparing c first) p b page count reports = either n (on_promise_page n p c first count (with_page n.pages p (page - 1) reports)) (unchanged n) (is_same b c && not (is_heard n.heard p))
      (gathers_grows p c first count (with_page n.pages p (page - 1) reports)) same

  -- an Accepted extends the log or leaves it, since a value is learned only at an empty slot
  accepted_grows : (o : Option (Option V)) (p : ℕ) (b : Ballot) (s : ℕ) (v : Option V) → entry_at n.learned s ≡ o → LogGrows n (on_accepted_at o n p b s v)
  accepted_grows (Some u) p b s v is = same
  accepted_grows None p b s v is = let counting : Node V = record n { tallies = counted n.tallies s b p } in
      either n (learns_chosen counting s v) (unchanged counting) (is_quorum n.weights (has_voter counting.tallies s b)) (log-put n.learned s v is) same

  -- an Ask leaves the log
  ask_grows : (o : Option (Option V)) (p s : ℕ) → LogGrows n (on_ask_at o n p s)
  ask_grows None p s = same
  ask_grows (Some v) p s = same

  -- a Told extends the log or leaves it, since a value is learned only at an empty slot
  told_grows : (o : Option (Option V)) (p s : ℕ) (v : Option V) → entry_at n.learned s ≡ o → LogGrows n (on_told_at o n p s v)
  told_grows (Some u) p s v is = same
  told_grows None p s v is = log-put n.learned s v is

  -- each body of a packet extends the log or leaves it
  body_grows : (p : ℕ) (body : Body V) → LogGrows n (on_body n p body)
  body_grows p (Prepare b first) = either n (promises n p b first) (sends_nack n p b) (is_below n.promise b) same same
  body_grows p (Promise b page count reports) = promise_grows n.role p b page count reports
  body_grows p (Accept b s v) = either n (sends_nack n p b) (accepts_value n b s v) (is_below b n.promise) same same
  body_grows p (Accepted b s v) = accepted_grows (entry_at n.learned s) p b s v refl
  body_grows p (Nack b c) = either n (idles n) (unchanged n) (is_at n.role b && is_below b c) same same
  body_grows p (Ask s) = ask_grows (entry_at n.learned s) p s
  body_grows p (Told s v) = told_grows (entry_at n.learned s) p s v refl

-- The logs of a world: that of the event's node grows, and all others stay.

-- a list is a prefix of each list that is equal to it
same_log : {A : Type 0} (xs ys : List A) → ys ≡ xs → IsPrefixOf xs ys
same_log xs ys is = ([], append-nil xs ∙ sym is)

module _ {V : Type 0} (w : World V) (j k : ℕ) where
  -- a step of one node leaves the logs of all others
  other_log : (step : StepResult V) → j ≢ k → log (after_step w j step) k ≡ log w k
  other_log step other = ap (λ (o : Option (Node V)). log_at o) (at_set_other w.nodes j k step.node other)

  -- a step that extends the log of its node or leaves it does so in the world
  own_log : (n : Node V) (step : StepResult V) → slice_get w.nodes j ≡ Some n → LogGrows n step → IsPrefixOf (log w j) (log (after_step w j step) j)
  own_log n step is grows =
      (grows.0, ap (λ (o : Option (Node V)). log_at o ++ grows.0) is ∙ grows.1 ∙ ap (λ (o : Option (Node V)). log_at o) (sym (at_set w.nodes j step.node n is)))

  -- a step of node j that extends its log or leaves it does so to the log of any node k
  either_log : (n : Node V) (step : StepResult V) → slice_get w.nodes j ≡ Some n → LogGrows n step → (t : Bool) → (j == k) ≡ t → IsPrefixOf (log w k) (log (after_step w j step) k)
  either_log n step is grows true test = let e : j ≡ k = grind (arith, nat_tests) in subst (λ (i : ℕ). IsPrefixOf (log w i) (log (after_step w j step) i)) e (own_log n step is grows)
  either_log n step is grows false test = same_log (log w k) (log (after_step w j step) k) (other_log step (grind (arith, nat_tests)))

  -- the answer of node j extends the log of any node k or leaves it, unless it is a refusal
  grows_answered : (n : Node V) → slice_get w.nodes j ≡ Some n → (r : Result (StepResult V) Refusal) → LogGrowsOnOk n r → IfTaken (after_step_or_fault w j r) (λ x. IsPrefixOf (log w k) (log x k))
  grows_answered n is (Ok step) grows = either_log n step is grows (j == k) refl
  grows_answered n is (Err refusal) grows = tt

  -- the answer of node j, if it exists, extends the log of any node k or leaves it
  grows_at : (make : Node V → Result (StepResult V) Refusal) → ((n : Node V) → LogGrowsOnOk n (make n)) → (o : Option (Node V)) → slice_get w.nodes j ≡ o → IfTaken (at_node w j make o) (λ x. IsPrefixOf (log w k) (log x k))
  grows_at make grows None is = tt
  grows_at make grows (Some n) is = grows_answered n is (make n) (grows n)

module _ {V : Type 0} (size : V → ℕ) (w : World V) (k : ℕ) where
  -- a delivery extends the log of any node k or leaves it
  grows_delivered : (o : Option (Packet V)) → IfTaken (delivered w o) (λ x. IsPrefixOf (log w k) (log x k))
  grows_delivered None = tt
  grows_delivered (Some p) = grows_at w p.to k (λ n. Ok (on_packet n p)) (λ n. body_grows n p.from p.body) (slice_get w.nodes p.to) refl

  -- a restart of another node leaves the log of node k
  others_restart : (j : ℕ) → j ≢ k → (o : Option (Node V)) → IfTaken (at_node w j (λ n. Ok (restarted n)) o) (λ x. IsPrefixOf (log w k) (log x k))
  others_restart j other None = tt
  others_restart j other (Some n) = same_log _ _ (other_log w j k (restarted n) other)

  -- an event other than a restart of node k extends its log or leaves it, if the limit of events is
  -- not tested
  grows_happens_at : (e : Event V) → e ≢ Restart k → IfTaken (event_result_without_limit size w e) (λ x. IsPrefixOf (log w k) (log x k))
  grows_happens_at (Offer j v) other = grows_at w j k (λ n. offer_result size n v) (λ n. offered_grows n size v) (slice_get w.nodes j) refl
  grows_happens_at (Begin j) other = grows_at w j k begin_result (λ n. begun_grows n) (slice_get w.nodes j) refl
  grows_happens_at (Deliver number) other = grows_delivered (slice_get w.packets number)
  grows_happens_at (Restart j) other = others_restart j (λ same. other (ap (λ (i : ℕ). let e : Event V = Restart i in e) same)) (slice_get w.nodes j)

  -- the log of node k before an event other than its restart is a prefix of the log after it
  pub log_grows : (e : Event V) → e ≢ Restart k → IfTaken (event_result size w e) (λ x. IsPrefixOf (log w k) (log x k))
  log_grows e other = spent_or (λ x. IsPrefixOf (log w k) (log x k)) (event_result_without_limit size w e) (w.event_count == w.event_limit) (grows_happens_at e other)

  -- a restart of node k, if it exists, empties its log
  emptied : (o : Option (Node V)) → slice_get w.nodes k ≡ o → IfTaken (at_node w k (λ n. Ok (restarted n)) o) (λ x. log x k ≡ [])
  emptied None is = tt
  emptied (Some n) is = ap (λ (o : Option (Node V)). log_at o) (at_set w.nodes k (restarted n).node n is)

-- the log of a node is a prefix of its log after an event other than its restart
pub logs_only_grow : {V : Type 0} → LogsOnlyGrow V
logs_only_grow size weights limit events e k w x is_after happened other = if_taken (λ x. IsPrefixOf (log w k) (log x k)) (event_result size w e) x happened (log_grows size w k e other)

-- a restart of a node empties its log
pub restart_empties_log : {V : Type 0} → RestartEmptiesLog V
restart_empties_log size weights limit events k w x is_after happened =
    if_taken (λ x. log x k ≡ []) (event_result size w (Restart k)) x happened (spent_or (λ x. log x k ≡ []) (event_result_without_limit size w (Restart k)) (w.event_count == w.event_limit) (emptied size w k (slice_get w.nodes k) refl))
