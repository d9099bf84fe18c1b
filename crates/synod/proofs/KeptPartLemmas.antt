-- Each step makes its one change to the kept part, or leaves it.
use Rattle.synod.proofs.Words.{◌≡◌, ℕ, ◌-◌, ◌^◌, ◌==◌, ◌&&◌, not, nat_lt, Bool, true, false, List, [], ◌∷◌, ◌++◌, length, Option, Some, None, Result, Ok, Err, refl, if◌then◌else◌, entry_at, Ballot, SlotReport, Body, Prepare, Promise, Accept, Accepted, Nack, Ask, Told, Heard, Role, Idle, Preparing, Leading, Refusal, Busy, LogFull, RoundsSpent, TooLong, MAX_VALUE_BYTES, MAX_WAITING, SLOTS, is_below, is_same, is_quorum, are_received, changed_by, Node, StepResult, kept_of, unchanged, pages_from, with_page, is_heard, promises, sends_nack, accepts_value, waits, proposes_value, offer_waits, offer_as, offer_result, next_round, begins, begin_result, top_or_first, all_reports, leads, adds_page, completes_promise, on_complete_promise, on_promise_page, on_promise_as, is_at, idles, has_voter, counted, learns_chosen, on_accepted_at, on_ask_at, on_told_at, log_length, on_body, restarted}

-- the change of the step leads from the kept part before it to that after it
abbrev pub ChangesKept : {V : Type 0} → Node V → StepResult V → Type 0
ChangesKept n step = kept_of step.node ≡ changed_by (kept_of n) step.change

-- the change of the step leads from the kept part before it to that after it, unless the step is
-- refused
abbrev pub ChangesKeptOnOk : {V : Type 0} → Node V → Result (StepResult V) Refusal → Type 0
ChangesKeptOnOk n (Ok step) = ChangesKept n step
ChangesKeptOnOk n (Err refusal) = Unit {0}

-- if each of two steps changes the kept part as it says, so does the one that a test picks
either : {V : Type 0} (n : Node V) (one other : StepResult V) (t : Bool) → ChangesKept n one → ChangesKept n other → ChangesKept n (if t then one else other)
either n one other true h k = h
either n one other false h k = k

-- if each of two answers changes the kept part as it says, unless it is a refusal, so does the one
-- that a test picks
either_ok : {V : Type 0} (n : Node V) (one other : Result (StepResult V) Refusal) (t : Bool) → ChangesKeptOnOk n one → ChangesKeptOnOk n other → ChangesKeptOnOk n (if t then one else other)
either_ok n one other true h k = h
either_ok n one other false h k = k

module _ {V : Type 0} (n : Node V) where
  -- an offer to a node that does not lead
  offer_waits_kept : (v : V) → ChangesKeptOnOk n (offer_waits n v)
  offer_waits_kept v = either_ok n (Err LogFull) (if nat_lt (length n.waiting) MAX_WAITING then Ok (waits n v) else Err Busy) (log_length n == SLOTS) tt
      (either_ok n (Ok (waits n v)) (Err Busy) (nat_lt (length n.waiting) MAX_WAITING) refl tt)

  -- an offer, in each role of the node
  offer_as_kept : (role : Role) (v : V) → ChangesKeptOnOk n (offer_as role n v)
  offer_as_kept Idle v = offer_waits_kept v
  offer_as_kept (Preparing b first) v = offer_waits_kept v
  offer_as_kept (Leading b next) v = either_ok n (Err LogFull) (Ok (proposes_value n b next v)) (next == SLOTS) tt refl

  -- an offer, whether or not its value is too long
  pub offered_kept : (size : V → ℕ) (v : V) → ChangesKeptOnOk n (offer_result size n v)
  offered_kept size v = either_ok n (Err TooLong) (offer_as n.role n v) (nat_lt MAX_VALUE_BYTES (size v)) tt (offer_as_kept n.role v)

  -- a begin, whether or not the rounds are spent
  pub begun_kept : ChangesKeptOnOk n (begin_result n)
  begun_kept = either_ok n (Ok (begins n)) (Err RoundsSpent) (nat_lt (next_round n) (2 ^ 64)) refl tt

  abbrev heard_with : ℕ → ℕ → List Heard
  heard_with p count = n.heard ++ record { node = p; count = count } ∷ []

  -- a complete promise, with or without a quorum
  complete_promise_kept : (b : Ballot) (first : ℕ) (pages : List (List (Option (List (SlotReport V))))) (heard : List Heard) → ChangesKept n (on_complete_promise n b first pages heard)
  complete_promise_kept b first pages heard = either n (leads n b first (all_reports pages heard) (top_or_first first (all_reports pages heard))) (completes_promise n pages heard) (is_quorum n.weights (is_heard heard)) refl refl

  -- a page for the node's ballot, whether or not pages of its promise are missing
  promise_page_kept : (p : ℕ) (b : Ballot) (first count : ℕ) (pages : List (List (Option (List (SlotReport V))))) → ChangesKept n (on_promise_page n p b first count pages)
  promise_page_kept p b first count pages = either n (on_complete_promise n b first pages (heard_with p count)) (adds_page n pages) (are_received (pages_from pages p) count)
      (complete_promise_kept b first pages (heard_with p count)) refl

  -- a Promise, in each role of the node
  promise_kept : (role : Role) (p : ℕ) (b : Ballot) (page count : ℕ) (reports : List (SlotReport V)) → ChangesKept n (on_promise_as role n p b page count reports)
  promise_kept Idle p b page count reports = refl
  promise_kept (Leading c next) p b page count reports = refl
  promise_kept (Preparing c first) p b page count reports = either n (on_promise_page n p c first count (with_page n.pages p (page - 1) reports)) (unchanged n) (is_same b c && not (is_heard n.heard p))
      (promise_page_kept p c first count (with_page n.pages p (page - 1) reports)) refl

  -- an Accepted, whether or not the slot is learned
  accepted_kept : (o : Option (Option V)) (p : ℕ) (b : Ballot) (s : ℕ) (v : Option V) → ChangesKept n (on_accepted_at o n p b s v)
  accepted_kept (Some u) p b s v = refl
  accepted_kept None p b s v = let counting : Node V = record n { tallies = counted n.tallies s b p } in
      either n (learns_chosen counting s v) (unchanged counting) (is_quorum n.weights (has_voter counting.tallies s b)) refl refl

  -- an Ask, whether or not the slot is learned
  ask_kept : (o : Option (Option V)) (p s : ℕ) → ChangesKept n (on_ask_at o n p s)
  ask_kept None p s = refl
  ask_kept (Some v) p s = refl

  -- a Told, whether or not the slot is learned
  told_kept : (o : Option (Option V)) (p s : ℕ) (v : Option V) → ChangesKept n (on_told_at o n p s v)
  told_kept (Some u) p s v = refl
  told_kept None p s v = refl

  -- the body of any packet
  pub body_kept : (p : ℕ) (body : Body V) → ChangesKept n (on_body n p body)
  body_kept p (Prepare b first) = either n (promises n p b first) (sends_nack n p b) (is_below n.promise b) refl refl
  body_kept p (Promise b page count reports) = promise_kept n.role p b page count reports
  body_kept p (Accept b s v) = either n (sends_nack n p b) (accepts_value n b s v) (is_below b n.promise) refl refl
  body_kept p (Accepted b s v) = accepted_kept (entry_at n.learned s) p b s v
  body_kept p (Nack b c) = either n (idles n) (unchanged n) (is_at n.role b && is_below b c) refl refl
  body_kept p (Ask s) = ask_kept (entry_at n.learned s) p s
  body_kept p (Told s v) = told_kept (entry_at n.learned s) p s v

  -- a restart leaves the kept part
  pub restarted_kept : ChangesKept n (restarted n)
  restarted_kept = refl
