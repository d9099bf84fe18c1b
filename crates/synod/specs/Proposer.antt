-- The proposer: its offers, ballots, promises and proposals.
-- Source: Lamport, Paxos Made Simple, 2.2, phases 1(a) and 2(a), and section 3 for a leader of all
-- instances.
-- The code has a table of the highest reports by slot. The definition finds each in one list of all
-- reports heard.
use Rattle.std.specs.Prelude.{ℕ, zero, suc, ◌+◌, ◌-◌, ◌^◌, max, Bool, false, not, ◌==◌, ◌&&◌, nat_lt, List, [], ◌∷◌, ◌++◌, map, take, drop, length, Option, Some, None, Result, Ok, Err, if◌then◌else◌}
use Rattle.synod.specs.Words.{SLOTS, MAX_VALUE_BYTES, MAX_WAITING, Ballot, SlotReport, Prepare, Accept, Round, Heard, Role, Idle, Preparing, Leading, Refusal, Busy, LogFull, RoundsSpent, TooLong}
use Rattle.synod.specs.Weights.{is_quorum}
use Rattle.synod.specs.Ballots.{is_below, is_same}
use Rattle.synod.specs.Packets.{to_all, accept_posts}
use Rattle.synod.specs.PromisePages.{are_received, joined_pages}
use Rattle.synod.specs.Node.{Node, StepResult, unchanged, volatile_step, pages_from, with_page, no_pages, is_heard}
use Rattle.synod.specs.Log.{log_length}

-- A value is offered.

-- the value is added to those that wait
abbrev pub waits : {V : Type 0} → Node V → V → StepResult V
waits n v = volatile_step (record n { waiting = n.waiting ++ v ∷ [] }) []

abbrev pub offer_waits : {V : Type 0} → Node V → V → Result (StepResult V) Refusal
offer_waits n v =
    if log_length n == SLOTS then Err LogFull
    else if nat_lt (length n.waiting) MAX_WAITING then Ok (waits n v)
    else Err Busy

-- the value is proposed at the leader's next slot
abbrev pub proposes_value : {V : Type 0} → Node V → Ballot → ℕ → V → StepResult V
proposes_value n b next v =
    volatile_step (record n { role = Leading b (next + 1) }) (to_all n.me n.weights (Accept b next (Some v)))

abbrev pub offer_leads : {V : Type 0} → Node V → Ballot → ℕ → V → Result (StepResult V) Refusal
offer_leads n b next v = if next == SLOTS then Err LogFull else Ok (proposes_value n b next v)

abbrev pub offer_as : {V : Type 0} → Role → Node V → V → Result (StepResult V) Refusal
offer_as Idle n v = offer_waits n v
offer_as (Preparing b first) n v = offer_waits n v
offer_as (Leading b next) n v = offer_leads n b next v

-- offer(v): the step, or the refusal that it meets
abbrev pub offer_result : {V : Type 0} → (V → ℕ) → Node V → V → Result (StepResult V) Refusal
offer_result size n v = if nat_lt MAX_VALUE_BYTES (size v) then Err TooLong else offer_as n.role n v

-- A ballot is begun.

-- one above the greater of the kept round and the promise's round
abbrev pub next_round : {V : Type 0} → Node V → ℕ
next_round n = max n.round n.promise.round + 1

abbrev pub next_ballot : {V : Type 0} → Node V → Ballot
next_ballot n = record { round = next_round n; node = n.me }

-- the node begins its next ballot, and discards the pages that it received for an earlier one
abbrev pub begins : {V : Type 0} → Node V → StepResult V
begins n = record {
  node = record n {
    round = next_round n;
    role = Preparing (next_ballot n) (log_length n);
    pages = no_pages n.weights;
    heard = [];
  };
  change = Some (Round (next_round n));
  posts = to_all n.me n.weights (Prepare (next_ballot n) (log_length n));
}

-- begin: the step `begins`, or the refusal that it meets
abbrev pub begin_result : {V : Type 0} → Node V → Result (StepResult V) Refusal
begin_result n = if nat_lt (next_round n) (2 ^ 64) then Ok (begins n) else Err RoundsSpent

-- The proposals.

-- the first report, unless the second is of a higher ballot
abbrev pub higher : {V : Type 0} → SlotReport V → Option (SlotReport V) → Option (SlotReport V)
higher r None = Some r
higher r (Some q) = if is_below r.ballot q.ballot then Some q else Some r

-- the first report of the highest ballot at the slot
abbrev pub highest_at : {V : Type 0} → ℕ → List (SlotReport V) → Option (SlotReport V)
highest_at s [] = None
highest_at s (r ∷ rs) = if r.slot == s then higher r (highest_at s rs) else highest_at s rs

-- the value of the report, or the no-operation if there is none
abbrev pub reported_value : {V : Type 0} → Option (SlotReport V) → Option V
reported_value None = None
reported_value (Some r) = r.value

-- one above the greatest slot reported, or 0
abbrev pub top_or_zero : {V : Type 0} → List (SlotReport V) → ℕ
top_or_zero [] = 0
top_or_zero (r ∷ rs) = max (r.slot + 1) (top_or_zero rs)

-- one above the greatest slot reported, or `first` if nothing is reported
abbrev pub top_or_first : {V : Type 0} → ℕ → List (SlotReport V) → ℕ
top_or_first first [] = first
top_or_first first (r ∷ rs) = top_or_zero (r ∷ rs)

-- the values to propose at `count` slots from s on
abbrev pub proposed_values : {V : Type 0} → List (SlotReport V) → ℕ → ℕ → List (Option V)
proposed_values reports s zero = []
proposed_values reports s (suc count) = reported_value (highest_at s reports) ∷ proposed_values reports (suc s) count

-- the reports of all nodes heard, in the order in which they were heard
abbrev pub all_reports : {V : Type 0} → List (List (Option (List (SlotReport V)))) → List Heard → List (SlotReport V)
all_reports pages [] = []
all_reports pages (h ∷ hs) = joined_pages (pages_from pages h.node) h.count ++ all_reports pages hs

-- the node leads: it proposes reported values or no-operations at the slots from first up to top,
-- and waiting values from top on
abbrev pub leads : {V : Type 0} → Node V → Ballot → ℕ → List (SlotReport V) → ℕ → StepResult V
leads n b first reports top =
    let proposed = take (SLOTS - top) n.waiting in
    volatile_step
    (record n { role = Leading b (top + length proposed); pages = []; heard = []; waiting = drop (SLOTS - top) n.waiting })
    (accept_posts n.me n.weights b first (proposed_values reports first (top - first)) ++ accept_posts n.me n.weights b top (map (λ v. Some v) proposed))

-- the node leads, with the reports of the nodes heard
abbrev pub leads_with : {V : Type 0} → Node V → Ballot → ℕ → List (List (Option (List (SlotReport V)))) → List Heard → StepResult V
leads_with n b first pages heard = leads n b first (all_reports pages heard) (top_or_first first (all_reports pages heard))

-- the node leads once page i of node p is received, with the reports of the nodes heard
abbrev pub leads_with_page : {V : Type 0} → Node V → Ballot → ℕ → ℕ → ℕ → List (SlotReport V) → List Heard → StepResult V
leads_with_page n b first p i reports heard = leads_with n b first (with_page n.pages p i reports) heard

-- A page of a promise arrives. A node is heard once all pages of its promise are received.

-- the page is added, and further pages of the promise are missing
abbrev pub adds_page : {V : Type 0} → Node V → List (List (Option (List (SlotReport V)))) → StepResult V
adds_page n pages = volatile_step (record n { pages = pages }) []

-- page i of node p is received, and further pages of the promise are missing
abbrev pub receives_page : {V : Type 0} → Node V → ℕ → ℕ → List (SlotReport V) → StepResult V
receives_page n p i reports = adds_page n (with_page n.pages p i reports)

-- the sender is heard, and the nodes heard are no quorum yet
abbrev pub completes_promise : {V : Type 0} → Node V → List (List (Option (List (SlotReport V)))) → List Heard → StepResult V
completes_promise n pages heard = volatile_step (record n { pages = pages; heard = heard }) []

-- page i of a sender is received and completes the promise: the sender is heard, and the nodes
-- heard are no quorum yet
abbrev pub receives_last_page : {V : Type 0} → Node V → Heard → ℕ → List (SlotReport V) → StepResult V
receives_last_page n sender i reports = completes_promise n (with_page n.pages sender.node i reports) (n.heard ++ sender ∷ [])

-- the sender is heard, and the node leads if the nodes heard are a quorum
abbrev pub on_complete_promise : {V : Type 0} → Node V → Ballot → ℕ → List (List (Option (List (SlotReport V)))) → List Heard → StepResult V
on_complete_promise n b first pages heard =
    if is_quorum n.weights (is_heard heard)
    then leads_with n b first pages heard
    else completes_promise n pages heard

-- a page for the ballot in preparation, from a node that is not heard yet
abbrev pub on_promise_page : {V : Type 0} → Node V → ℕ → Ballot → ℕ → ℕ → List (List (Option (List (SlotReport V)))) → StepResult V
on_promise_page n p b first count pages =
    if are_received (pages_from pages p) count
    then on_complete_promise n b first pages (n.heard ++ record { node = p; count = count } ∷ [])
    else adds_page n pages

-- page i arrives for the ballot in preparation, from a sender that is not heard yet
abbrev pub on_page_of : {V : Type 0} → Node V → Ballot → ℕ → Heard → ℕ → List (SlotReport V) → StepResult V
on_page_of n b first sender i reports = on_promise_page n sender.node b first sender.count (with_page n.pages sender.node i reports)

abbrev pub on_promise_as : {V : Type 0} → Role → Node V → ℕ → Ballot → ℕ → ℕ → List (SlotReport V) → StepResult V
on_promise_as Idle n p b page count reports = unchanged n
on_promise_as (Leading c next) n p b page count reports = unchanged n
on_promise_as (Preparing c first) n p b page count reports =
    if is_same b c && not (is_heard n.heard p)
    then on_promise_page n p c first count (with_page n.pages p (page - 1) reports)
    else unchanged n

-- Promise(b, page, count, reports) from p
abbrev pub on_promise : {V : Type 0} → Node V → ℕ → Ballot → ℕ → ℕ → List (SlotReport V) → StepResult V
on_promise n p b page count reports = on_promise_as n.role n p b page count reports

-- A proposer is refused.

abbrev pub is_at : Role → Ballot → Bool
is_at Idle b = false
is_at (Preparing c first) b = is_same c b
is_at (Leading c next) b = is_same c b

abbrev pub idles : {V : Type 0} → Node V → StepResult V
idles n = volatile_step (record n { role = Idle }) []

-- Nack(b, c): if the proposer is at ballot b and the promise c is higher, it gives b up
abbrev pub on_nack : {V : Type 0} → Node V → Ballot → Ballot → StepResult V
on_nack n b c = if is_at n.role b && is_below b c then idles n else unchanged n
