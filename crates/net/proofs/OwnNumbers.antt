-- Each node has its own number and the weights of the world, whatever it began with: no step
-- changes them.
use Rattle.net.proofs.Words.{◌≡◌, ℕ, zero, suc, ◌+◌, ◌-◌, ◌^◌, ◌==◌, ◌&&◌, not, nat_lt, Bool, true, false, List, [], ◌∷◌, ◌++◌, length, Option, Some, None, Result, Ok, Err, refl, ap, sym, ◌∙◌, subst, arith, if◌then◌else◌, slice_get, set, AllByRecursion, nat_tests, entry_at, Ballot, SlotReport, Packet, Body, Prepare, Promise, Accept, Accepted, Nack, Ask, Told, Heard, Role, Idle, Preparing, Leading, Refusal, Busy, LogFull, RoundsSpent, TooLong, MAX_VALUE_BYTES, MAX_WAITING, SLOTS, is_below, is_same, is_quorum, are_received, KeptPart, Node, StepResult, restarted_node, unchanged, pages_from, with_page, is_heard, promises, sends_nack, accepts_value, waits, proposes_value, offer_waits, offer_as, offer_result, next_round, begins, begin_result, top_or_first, all_reports, leads, adds_page, completes_promise, on_complete_promise, on_promise_page, on_promise_as, is_at, idles, has_voter, counted, learns_chosen, on_accepted_at, on_ask_at, on_told_at, log_length, on_body, on_packet, restarted, Event, Offer, Begin, Deliver, Restart, World, nodes_with, resumed, after_step, after_step_or_fault, at_node, delivered, event_result_without_limit, events_result}
use Rattle.net.proofs.GrowingLists.{at_set, at_set_other}
use Rattle.net.proofs.EveryEvent.{IfTaken, if_taken, all_keep}

-- the step keeps the number and the weights of the node
pub record KeepsNumber {V : Type 0} (n : Node V) (step : StepResult V) : Type 0 where
  pub me : step.node.me ≡ n.me
  pub weights : step.node.weights ≡ n.weights

abbrev KeepsNumberOnOk : {V : Type 0} → Node V → Result (StepResult V) Refusal → Type 0
KeepsNumberOnOk n (Ok step) = KeepsNumber n step
KeepsNumberOnOk n (Err refusal) = Unit {0}

-- if each of two steps does, so does the one that a test picks
either : {V : Type 0} (n : Node V) (one other : StepResult V) (t : Bool) → KeepsNumber n one → KeepsNumber n other → KeepsNumber n (if t then one else other)
either n one other true h k = h
either n one other false h k = k

either_ok : {V : Type 0} (n : Node V) (one other : Result (StepResult V) Refusal) (t : Bool) → KeepsNumberOnOk n one → KeepsNumberOnOk n other → KeepsNumberOnOk n (if t then one else other)
either_ok n one other true h k = h
either_ok n one other false h k = k

module _ {V : Type 0} (n : Node V) where
  offer_waits_keeps : (v : V) → KeepsNumberOnOk n (offer_waits n v)
  offer_waits_keeps v = either_ok n (Err LogFull) (if nat_lt (length n.waiting) MAX_WAITING then Ok (waits n v) else Err Busy) (log_length n == SLOTS) tt
      (either_ok n (Ok (waits n v)) (Err Busy) (nat_lt (length n.waiting) MAX_WAITING) (record { me = refl; weights = refl }) tt)

  offer_as_keeps : (role : Role) (v : V) → KeepsNumberOnOk n (offer_as role n v)
  offer_as_keeps Idle v = offer_waits_keeps v
  offer_as_keeps (Preparing b first) v = offer_waits_keeps v
  offer_as_keeps (Leading b next) v = either_ok n (Err LogFull) (Ok (proposes_value n b next v)) (next == SLOTS) tt (record { me = refl; weights = refl })

  offered_keeps : (size : V → ℕ) (v : V) → KeepsNumberOnOk n (offer_result size n v)
  offered_keeps size v = either_ok n (Err TooLong) (offer_as n.role n v) (nat_lt MAX_VALUE_BYTES (size v)) tt (offer_as_keeps n.role v)

  begun_keeps : KeepsNumberOnOk n (begin_result n)
  begun_keeps = either_ok n (Ok (begins n)) (Err RoundsSpent) (nat_lt (next_round n) (2 ^ 64)) (record { me = refl; weights = refl }) tt

  abbrev heard_with : ℕ → ℕ → List Heard
  heard_with p count = n.heard ++ record { node = p; count = count } ∷ []

  complete_promise_keeps : (b : Ballot) (first : ℕ) (pages : List (List (Option (List (SlotReport V))))) (heard : List Heard) → KeepsNumber n (on_complete_promise n b first pages heard)
  complete_promise_keeps b first pages heard = either n (leads n b first (all_reports pages heard) (top_or_first first (all_reports pages heard))) (completes_promise n pages heard) (is_quorum n.weights (is_heard heard)) (record { me = refl; weights = refl }) (record { me = refl; weights = refl })

  promise_page_keeps : (p : ℕ) (b : Ballot) (first count : ℕ) (pages : List (List (Option (List (SlotReport V))))) → KeepsNumber n (on_promise_page n p b first count pages)
  promise_page_keeps p b first count pages = either n (on_complete_promise n b first pages (heard_with p count)) (adds_page n pages) (are_received (pages_from pages p) count)
      (complete_promise_keeps b first pages (heard_with p count)) (record { me = refl; weights = refl })

  promise_keeps : (role : Role) (p : ℕ) (b : Ballot) (page count : ℕ) (reports : List (SlotReport V)) → KeepsNumber n (on_promise_as role n p b page count reports)
  promise_keeps Idle p b page count reports = record { me = refl; weights = refl }
  promise_keeps (Leading c next) p b page count reports = record { me = refl; weights = refl }
  promise_keeps (Preparing c first) p b page count reports = either n (on_promise_page n p c first count (with_page n.pages p (page - 1) reports)) (unchanged n) (is_same b c && not (is_heard n.heard p))
      (promise_page_keeps p c first count (with_page n.pages p (page - 1) reports)) (record { me = refl; weights = refl })

  accepted_keeps : (o : Option (Option V)) (p : ℕ) (b : Ballot) (s : ℕ) (v : Option V) → KeepsNumber n (on_accepted_at o n p b s v)
  accepted_keeps (Some u) p b s v = record { me = refl; weights = refl }
  accepted_keeps None p b s v = let counting : Node V = record n { tallies = counted n.tallies s b p } in
      either n (learns_chosen counting s v) (unchanged counting) (is_quorum n.weights (has_voter counting.tallies s b)) (record { me = refl; weights = refl }) (record { me = refl; weights = refl })

  ask_keeps : (o : Option (Option V)) (p s : ℕ) → KeepsNumber n (on_ask_at o n p s)
  ask_keeps None p s = record { me = refl; weights = refl }
  ask_keeps (Some v) p s = record { me = refl; weights = refl }

  told_keeps : (o : Option (Option V)) (p s : ℕ) (v : Option V) → KeepsNumber n (on_told_at o n p s v)
  told_keeps (Some u) p s v = record { me = refl; weights = refl }
  told_keeps None p s v = record { me = refl; weights = refl }

  body_keeps : (p : ℕ) (body : Body V) → KeepsNumber n (on_body n p body)
  body_keeps p (Prepare b first) = either n (promises n p b first) (sends_nack n p b) (is_below n.promise b) (record { me = refl; weights = refl }) (record { me = refl; weights = refl })
  body_keeps p (Promise b page count reports) = promise_keeps n.role p b page count reports
  body_keeps p (Accept b s v) = either n (sends_nack n p b) (accepts_value n b s v) (is_below b n.promise) (record { me = refl; weights = refl }) (record { me = refl; weights = refl })
  body_keeps p (Accepted b s v) = accepted_keeps (entry_at n.learned s) p b s v
  body_keeps p (Nack b c) = either n (idles n) (unchanged n) (is_at n.role b && is_below b c) (record { me = refl; weights = refl }) (record { me = refl; weights = refl })
  body_keeps p (Ask s) = ask_keeps (entry_at n.learned s) p s
  body_keeps p (Told s v) = told_keeps (entry_at n.learned s) p s v

-- All nodes of a world.

-- node k has the number k, and these weights
pub record IsOwn {V : Type 0} (ws : List ℕ) (k : ℕ) (n : Node V) : Type 0 where
  pub me : n.me ≡ k
  pub weights : n.weights ≡ ws

pub record AreOwn {V : Type 0} (ws : List ℕ) (w : World V) : Type 0 where
  pub each : (k : ℕ) (n : Node V) → slice_get w.nodes k ≡ Some n → IsOwn ws k n

module _ {V : Type 0} (ws : List ℕ) (w : World V) (h : AreOwn ws w) where
  own_step : (i : ℕ) (n : Node V) → slice_get w.nodes i ≡ Some n → (step : StepResult V) → KeepsNumber n step → AreOwn ws (after_step w i step)
  own_step i n at step keeps = record { each = λ k m there. by_test k m there (i == k) refl } where
    by_test : (k : ℕ) (m : Node V) → slice_get (set w.nodes i step.node) k ≡ Some m → (t : Bool) → (i == k) ≡ t → IsOwn ws k m
    by_test k m there true test =
        let e : i ≡ k = grind (arith, nat_tests) in
        let both : Some step.node ≡ Some m = sym (at_set w.nodes i step.node n at) ∙ ap (λ (j : ℕ). slice_get (set w.nodes i step.node) j) e ∙ there in
        let same : step.node ≡ m = cc in
        let own : IsOwn ws i n = h.each i n at in
        subst (λ (x : Node V). IsOwn ws k x) same record { me = keeps.me ∙ own.me ∙ e; weights = keeps.weights ∙ own.weights }
    by_test k m there false test = h.each k m (sym (at_set_other w.nodes i k step.node (grind (arith, nat_tests))) ∙ there)

  own_answered : (i : ℕ) (n : Node V) → slice_get w.nodes i ≡ Some n → (r : Result (StepResult V) Refusal) → KeepsNumberOnOk n r → IfTaken (after_step_or_fault w i r) (AreOwn ws)
  own_answered i n at (Ok step) keeps = own_step i n at step keeps
  own_answered i n at (Err refusal) keeps = tt

  own_at : (i : ℕ) (make : Node V → Result (StepResult V) Refusal) → ((n : Node V) → KeepsNumberOnOk n (make n)) → (o : Option (Node V)) → slice_get w.nodes i ≡ o → IfTaken (at_node w i make o) (AreOwn ws)
  own_at i make keeps None at = tt
  own_at i make keeps (Some n) at = own_answered i n at (make n) (keeps n)

  own_delivered : (o : Option (Packet V)) → IfTaken (delivered w o) (AreOwn ws)
  own_delivered None = tt
  own_delivered (Some p) = own_at p.to (λ n. Ok (on_packet n p)) (λ n. body_keeps n p.from p.body) (slice_get w.nodes p.to) refl

  own_happens : (size : V → ℕ) (e : Event V) → IfTaken (event_result_without_limit size w e) (AreOwn ws)
  own_happens size (Offer k v) = own_at k (λ n. offer_result size n v) (λ n. offered_keeps n size v) (slice_get w.nodes k) refl
  own_happens size (Begin k) = own_at k begin_result (λ n. begun_keeps n) (slice_get w.nodes k) refl
  own_happens size (Deliver number) = own_delivered (slice_get w.packets number)
  own_happens size (Restart k) = own_at k (λ n. Ok (restarted n)) (λ n. record { me = refl; weights = refl }) (slice_get w.nodes k) refl

-- the nodes of a process before any event have their own numbers
own_first : {V : Type 0} (ws : List ℕ) (j : ℕ) (parts : List (KeptPart V)) (k : ℕ) (n : Node V) → slice_get (nodes_with ws j parts) k ≡ Some n → IsOwn ws (j + k) n
own_first ws j [] k n at = cc
own_first {V} ws j (kept ∷ parts) zero n at =
    let z : j ≡ j + 0 = omega arith in
    let both : Some (restarted_node j ws kept) ≡ Some n = at in
    let same : restarted_node j ws kept ≡ n = cc in
    subst (λ (x : Node V). IsOwn ws (j + 0) x) same record { me = z; weights = refl }
own_first {V} ws j (kept ∷ parts) (suc k) n at =
    let z : suc j + k ≡ j + suc k = omega arith in
    subst (λ (i : ℕ). IsOwn ws i n) z (own_first ws (suc j) parts k n at)

each_event : {V : Type 0} (es : List (Event V)) → AllByRecursion (λ e. Unit {0}) es
each_event [] = tt
each_event (e ∷ es) = (tt, each_event es)

-- after any events of a process each node has its own number, and the weights of the world
pub own_after : {V : Type 0} (size : V → ℕ) (ws : List ℕ) (limit : ℕ) (parts : List (KeptPart V)) (es : List (Event V)) (w : World V) → events_result size es (Ok (resumed ws limit parts)) ≡ Ok w → AreOwn ws w
own_after {V} size ws limit parts es w is_after = if_taken (AreOwn ws) (events_result size es (Ok (resumed ws limit parts))) w is_after
    (all_keep size (AreOwn ws) (λ e. Unit {0}) (λ x e u h. own_happens ws x h size e) es (each_event es) (Ok (resumed ws limit parts))
    record { each = λ k n at. let z : 0 + k ≡ k = omega arith in subst (λ (i : ℕ). IsOwn ws i n) z (own_first ws 0 parts k n at) })
