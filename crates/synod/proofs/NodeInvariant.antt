-- The invariant of a node and of its posts, for all steps except those on promises.
use Rattle.synod.proofs.Words.{◌≡◌, ℕ, zero, suc, ◌+◌, ◌^◌, ◌<◌, ◌≤◌, Bool, true, false, ◌&&◌, ◌==◌, nat_lt, List, [], ◌∷◌, ◌++◌, length, Option, Some, None, Result, Ok, Err, refl, arith, set, if◌then◌else◌, nat_tests, AllByRecursion, SLOTS, entry_at, put_at, top_of-put_at, front_of-le, MAX_VALUE_BYTES, MAX_WAITING, Ballot, SlotReport, Packet, Body, Prepare, Accept, Accepted, Nack, Ask, Told, AcceptedEntry, Heard, Role, Idle, Preparing, Leading, Refusal, Busy, LogFull, RoundsSpent, TooLong, is_below, packet, to_all_from, to_all, to_others_from, to_others, accept_posts, IsBody, IsPost, KeptPart, Node, StepResult, unchanged, no_pages, log_length, sends_nack, accepted_entry, accepts_value, on_accept, waits, proposes_value, offer_waits, offer_as, offer_result, next_round, next_ballot, begins, begin_result, is_at, idles, on_nack, learns, learns_chosen, on_ask_at, on_ask, on_told_at, on_told, PreservesInvariant, reloaded, IsRole, IsReceivedPage, IsNode}
use Rattle.std.specs.List.{slice_index_or}

-- the step preserves the invariant, unless it is refused
abbrev pub KeepsOnOk : {V : Type 0} → ℕ → Result (StepResult V) Refusal → Type 0
KeepsOnOk nodes (Ok step) = PreservesInvariant nodes step
KeepsOnOk nodes (Err refusal) = Unit {0}

-- if each of two steps preserves the invariant when the test picks it, so does the one picked
pub either : {V : Type 0} (nodes : ℕ) (one other : StepResult V) (t : Bool) → (t ≡ true → PreservesInvariant nodes one) → (t ≡ false → PreservesInvariant nodes other) → PreservesInvariant nodes (if t then one else other)
either nodes one other true h k = h refl
either nodes one other false h k = k refl

-- if each of two answers preserves the invariant when the test picks it, unless it is a refusal, so
-- does the one picked
either_ok : {V : Type 0} (nodes : ℕ) (one other : Result (StepResult V) Refusal) (t : Bool) → (t ≡ true → KeepsOnOk nodes one) → (t ≡ false → KeepsOnOk nodes other) → KeepsOnOk nodes (if t then one else other)
either_ok nodes one other true h k = h refl
either_ok nodes one other false h k = k refl

-- Each element of a list.

-- if P holds of each element of xs and of ys, it holds of each element of xs followed by ys
pub all_append : {A : Type 0} (P : A → Type 0) (xs ys : List A) → AllByRecursion P xs → AllByRecursion P ys → AllByRecursion P (xs ++ ys)
all_append P [] ys h k = k
all_append P (x ∷ xs) ys h k = (h.0, all_append P xs ys h.1 k)

-- if P holds of each element and of x, it holds of each element once x is set
pub all_set : {A : Type 0} (P : A → Type 0) (xs : List A) (i : ℕ) (x : A) → AllByRecursion P xs → P x → AllByRecursion P (set xs i x)
all_set P [] i x h p = tt
all_set P (y ∷ xs) zero x h p = (p, h.1)
all_set P (y ∷ xs) (suc i) x h p = (h.0, all_set P xs i x h.1 p)

-- if P holds of each element and of the default, it holds of the element read at any index
pub all_index : {A : Type 0} (P : A → Type 0) (xs : List A) (i : ℕ) (d : A) → AllByRecursion P xs → P d → P (slice_index_or xs i d)
all_index P [] i d h p = p
all_index P (x ∷ xs) zero d h p = h.0
all_index P (x ∷ xs) (suc i) d h p = all_index P xs i d h.1 p

-- Packets to all nodes.

-- a packet between two nodes with a body within the limits is a post
pub post : {V : Type 0} (nodes me to : ℕ) (body : Body V) → me < nodes → to < nodes → IsBody body → IsPost nodes (packet me to body)
post nodes me to body from for h = record { packet = record { sender = from; body = h }; receiver = for }

module _ {V : Type 0} (nodes me : ℕ) (body : Body V) (from : me < nodes) (h : IsBody body) where
  -- one packet to each of the nodes from k on
  posts_to_all : (k : ℕ) (ws : List ℕ) → k + length ws ≤ nodes → AllByRecursion (IsPost nodes) (to_all_from me body k ws)
  posts_to_all k [] le = tt
  posts_to_all k (w ∷ ws) le = (post nodes me k body from (omega arith) h, posts_to_all (suc k) ws (omega arith))

  -- one packet more, unless it is to the sender
  one_other : (t : Bool) (k : ℕ) (ps : List (Packet V)) → k < nodes → AllByRecursion (IsPost nodes) ps → AllByRecursion (IsPost nodes) (if t then ps else (packet me k body ∷ ps))
  one_other true k ps for rest = rest
  one_other false k ps for rest = (post nodes me k body from for h, rest)

  -- one packet to each of the nodes from k on except the sender
  posts_to_others : (k : ℕ) (ws : List ℕ) → k + length ws ≤ nodes → AllByRecursion (IsPost nodes) (to_others_from me body k ws)
  posts_to_others k [] le = tt
  posts_to_others k (w ∷ ws) le = one_other (k == me) k (to_others_from me body (suc k) ws) (omega arith) (posts_to_others (suc k) ws (omega arith))

-- the Accepts to all nodes for values at slots below the limit are posts
pub posts_accepts : {V : Type 0} (me : ℕ) (weights : List ℕ) (b : Ballot) (s : ℕ) (vs : List (Option V)) → me < length weights → s + length vs ≤ SLOTS
    → AllByRecursion (IsPost (length weights)) (accept_posts me weights b s vs)
posts_accepts me weights b s [] from le = tt
posts_accepts me weights b s (v ∷ vs) from le =
    all_append (IsPost (length weights)) (to_all me weights (Accept b s v)) (accept_posts me weights b (suc s) vs)
    (posts_to_all (length weights) me (Accept b s v) from (omega arith) 0 weights (omega arith))
    (posts_accepts me weights b (suc s) vs from (omega arith))

-- The steps of a node.

module _ {V : Type 0} (n : Node V) (is : IsNode n) where
  abbrev pub nodes : ℕ
  nodes = length n.weights

  -- a step that changes nothing preserves the invariant
  pub same : PreservesInvariant nodes (unchanged n)
  same = record { node = is; posts = tt }

  -- a node with other slots, role and pages, all within the limits, is a node
  pub with_parts : (promise : Ballot) (round : ℕ) (accepted : List (Option (AcceptedEntry V))) (role : Role) (pages : List (List (Option (List (SlotReport V))))) (heard : List Heard) (learned : List (Option (Option V))) (waiting : List V)
      → length accepted ≤ SLOTS → length learned ≤ SLOTS → IsRole role → AllByRecursion (AllByRecursion IsReceivedPage) pages
      → IsNode (record n { promise = promise; round = round; accepted = accepted; role = role; pages = pages; heard = heard; learned = learned; waiting = waiting })
  with_parts promise round accepted role pages heard learned waiting low low_learned as_role each =
      record { weights = is.weights; me = is.me; accepted = low; learned = low_learned; role = as_role; pages = each }

  -- a map within the limit remains so with an entry at a slot below the limit
  put_low : {T : Type 0} (xs : List (Option T)) (s : ℕ) (x : T) → length xs ≤ SLOTS → s < SLOTS → length (put_at xs s x) ≤ SLOTS
  put_low xs s x low under = let e = top_of-put_at xs s x in omega (arith, e)

  -- the log is no longer than the limit
  log_low : log_length n ≤ SLOTS
  log_low = let f = front_of-le n.learned in let l = is.learned in omega (arith, f, l)

  -- The acceptor.

  -- refusing a ballot preserves the invariant
  pub refuses_keeps : (p : ℕ) (b : Ballot) → p < nodes → PreservesInvariant nodes (sends_nack n p b)
  refuses_keeps p b for = record { node = is; posts = (post nodes n.me p (Nack b n.promise) is.me for tt, tt) }

  -- an Accept for a slot below the limit preserves the invariant
  pub keeps_accept : (p : ℕ) (b : Ballot) (s : ℕ) (v : Option V) → p < nodes → s < SLOTS → PreservesInvariant nodes (on_accept n p b s v)
  keeps_accept p b s v for low = either nodes (sends_nack n p b) (accepts_value n b s v) (is_below b n.promise) (λ e. refuses_keeps p b for) (λ e. record {
    node = with_parts b n.round (put_at n.accepted s (accepted_entry b v)) n.role n.pages n.heard n.learned n.waiting (put_low n.accepted s (accepted_entry b v) is.accepted low) is.learned is.role is.pages;
    posts = posts_to_all nodes n.me (Accepted b s v) is.me low 0 n.weights (omega arith);
  })

  -- The learner.

  -- a node that learns a value at a slot below the limit is a node
  learns_low : (s : ℕ) (v : Option V) → s < SLOTS → IsNode (learns n s v)
  learns_low s v low = with_parts n.promise n.round n.accepted n.role n.pages n.heard (put_at n.learned s v) n.waiting is.accepted (put_low n.learned s v is.learned low) is.role is.pages

  -- Asks to the others for a slot below the limit, if any, are posts
  ask_posts : (s : ℕ) (t : Bool) → (t ≡ true → s < SLOTS) → AllByRecursion (IsPost {V = V} nodes) (if t then to_others n.me n.weights (Ask s) else [])
  ask_posts s true low = posts_to_others nodes n.me (Ask s) is.me (low refl) 0 n.weights (omega arith)
  ask_posts s false low = tt

  -- an Ask to one node for a slot below the limit, if any, is a post
  next_posts : (p s : ℕ) (t : Bool) → p < nodes → (t ≡ true → s < SLOTS) → AllByRecursion (IsPost {V = V} nodes) (if t then (packet n.me p (Ask s) ∷ []) else [])
  next_posts p s true for low = (post nodes n.me p (Ask s) is.me for (low refl), tt)
  next_posts p s false for low = tt

  -- choosing a value at a slot below the limit preserves the invariant
  pub chooses_keeps : (s : ℕ) (v : Option V) → s < SLOTS → PreservesInvariant nodes (learns_chosen n s v)
  chooses_keeps s v low = record {
    node = learns_low s v low;
    posts = let m : ℕ = log_length (learns n s v) in ask_posts m (nat_lt m s) (λ e. let u : m < s = grind (arith, nat_tests) in omega arith);
  }

  -- answering an Ask, if the value is learned, preserves the invariant
  ask_at : (p s : ℕ) (o : Option (Option V)) → p < nodes → s < SLOTS → PreservesInvariant nodes (on_ask_at o n p s)
  ask_at p s None for low = same
  ask_at p s (Some v) for low = record { node = is; posts = (post nodes n.me p (Told s v) is.me for low, tt) }

  -- an Ask for a slot below the limit preserves the invariant
  pub keeps_ask : (p s : ℕ) → p < nodes → s < SLOTS → PreservesInvariant nodes (on_ask n p s)
  keeps_ask p s for low = ask_at p s (entry_at n.learned s) for low

  -- learning the value of a Told, if none is learned at the slot, preserves the invariant
  told_at : (p s : ℕ) (v : Option V) (o : Option (Option V)) → p < nodes → s < SLOTS → PreservesInvariant nodes (on_told_at o n p s v)
  told_at p s v (Some u) for low = same
  told_at p s v None for low = record {
    node = learns_low s v low;
    posts = let m : ℕ = log_length (learns n s v) in next_posts p m (nat_lt m SLOTS) for (λ e. grind (arith, nat_tests));
  }

  -- a Told for a slot below the limit preserves the invariant
  pub keeps_told : (p s : ℕ) (v : Option V) → p < nodes → s < SLOTS → PreservesInvariant nodes (on_told n p s v)
  keeps_told p s v for low = told_at p s v (entry_at n.learned s) for low

  -- The proposer, except for promises.

  -- a Nack preserves the invariant, whether the node goes idle or stays as it is
  pub keeps_nack : (b c : Ballot) → PreservesInvariant nodes (on_nack n b c)
  keeps_nack b c = either nodes (idles n) (unchanged n) (is_at n.role b && is_below b c)
      (λ e. record { node = with_parts n.promise n.round n.accepted Idle n.pages n.heard n.learned n.waiting is.accepted is.learned tt is.pages; posts = tt }) (λ e. same)

  -- without pages there is no report of a slot past the limit
  none_had : (ws : List ℕ) → AllByRecursion (AllByRecursion (IsReceivedPage {V = V})) (no_pages ws)
  none_had [] = tt
  none_had (w ∷ ws) = (tt, none_had ws)

  -- a begin preserves the invariant, unless the rounds are spent
  pub keeps_begun : KeepsOnOk nodes (begin_result n)
  keeps_begun = either_ok nodes (Ok (begins n)) (Err RoundsSpent) (nat_lt (next_round n) (2 ^ 64)) (λ e. record {
    node = with_parts n.promise (next_round n) n.accepted (Preparing (next_ballot n) (log_length n)) (no_pages n.weights) [] n.learned n.waiting is.accepted is.learned log_low (none_had n.weights);
    posts = posts_to_all nodes n.me (Prepare (next_ballot n) (log_length n)) is.me log_low 0 n.weights (omega arith);
  }) (λ e. tt)

  -- keeping an offered value waiting preserves the invariant
  pub value_waits : (v : V) → PreservesInvariant nodes (waits n v)
  value_waits v = record { node = with_parts n.promise n.round n.accepted n.role n.pages n.heard n.learned (n.waiting ++ v ∷ []) is.accepted is.learned is.role is.pages; posts = tt }

  -- proposing an offered value at the next slot, which is below the limit, preserves the invariant
  pub slot_is_taken : (b : Ballot) (next : ℕ) (v : V) → next < SLOTS → PreservesInvariant nodes (proposes_value n b next v)
  slot_is_taken b next v low = record {
    node = with_parts n.promise n.round n.accepted (Leading b (next + 1)) n.pages n.heard n.learned n.waiting is.accepted is.learned (omega arith) is.pages;
    posts = posts_to_all nodes n.me (Accept b next (Some v)) is.me low 0 n.weights (omega arith);
  }

  -- an offer to a node that does not lead preserves the invariant, unless it is refused
  waits_keep : (v : V) → KeepsOnOk nodes (offer_waits n v)
  waits_keep v = either_ok nodes (Err LogFull) (if nat_lt (length n.waiting) MAX_WAITING then Ok (waits n v) else Err Busy) (log_length n == SLOTS) (λ e. tt) (λ e.
      either_ok nodes (Ok (waits n v)) (Err Busy) (nat_lt (length n.waiting) MAX_WAITING)
      (λ f. value_waits v) (λ f. tt))

  -- an offer preserves the invariant in each role, unless it is refused
  offer_as_keeps : (role : Role) (v : V) → IsRole role → KeepsOnOk nodes (offer_as role n v)
  offer_as_keeps Idle v h = waits_keep v
  offer_as_keeps (Preparing b first) v h = waits_keep v
  offer_as_keeps (Leading b next) v h = either_ok nodes (Err LogFull) (Ok (proposes_value n b next v)) (next == SLOTS) (λ e. tt) (λ e.
      let low : next < SLOTS = grind (arith, nat_tests) in slot_is_taken b next v low)

  -- an offer preserves the invariant, whether or not its value is too long
  pub keeps_offered : (size : V → ℕ) (v : V) → KeepsOnOk nodes (offer_result size n v)
  keeps_offered size v = either_ok nodes (Err TooLong) (offer_as n.role n v) (nat_lt MAX_VALUE_BYTES (size v)) (λ e. tt) (λ e. offer_as_keeps n.role v is.role)

  -- A restart.

  -- a restart from a record preserves the invariant, if the record has accepted entries only below
  -- the limit
  pub keeps_reloaded : (kept : KeptPart V) → length kept.accepted ≤ SLOTS → PreservesInvariant nodes (reloaded n kept)
  keeps_reloaded kept low = record {
    node = record { weights = is.weights; me = is.me; accepted = low; learned = omega arith; role = tt; pages = tt };
    posts = posts_to_others nodes n.me (Ask 0) is.me (omega arith) 0 n.weights (omega arith);
  }
