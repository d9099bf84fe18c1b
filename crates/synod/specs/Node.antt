-- The state of a node: proposer, acceptor and learner at once.
-- Source: Lamport, Paxos Made Simple, 2.1 to 2.3 and 3.
-- The code also has reserved capacity, and stores the maps in pages.
use Rattle.std.specs.Prelude.{ℕ, Bool, false, ◌==◌, ◌||◌, List, [], ◌∷◌, Option, None, is_some, map, slice_set, slice_index_or, if◌then◌else◌}
use Rattle.synod.specs.Words.{entry_at, put_at, Ballot, SlotReport, Packet, AcceptedEntry, Change, Role, Idle, Heard, Tally}
use Rattle.synod.specs.Record.{KeptPart, new_kept}

-- a node; `me` is its number, from 0
pub record Node (V : Type 0) : Type 0 where
  pub me : ℕ
  pub weights : List ℕ
  pub promise : Ballot
  pub round : ℕ
  pub accepted : List (Option (AcceptedEntry V))  -- by slot
  pub role : Role
  pub pages : List (List (Option (List (SlotReport V))))  -- by node, and then by page, from 0
  pub heard : List Heard  -- in the order in which they were heard
  pub tallies : List (Option (List Tally))  -- by slot
  pub learned : List (Option (Option V))  -- by slot
  pub waiting : List V  -- the oldest first

-- the part that survives a restart
abbrev pub kept_of : {V : Type 0} → Node V → KeptPart V
kept_of n = record { promise = n.promise; round = n.round; accepted = n.accepted }

-- the node after a restart with this kept part
abbrev pub restarted_node : {V : Type 0} → ℕ → List ℕ → KeptPart V → Node V
restarted_node me weights kept = record {
  me = me;
  weights = weights;
  promise = kept.promise;
  round = kept.round;
  accepted = kept.accepted;
  role = Idle;
  pages = [];
  heard = [];
  tallies = [];
  learned = [];
  waiting = [];
}

abbrev pub new_node : {V : Type 0} → ℕ → List ℕ → Node V
new_node me weights = restarted_node me weights new_kept

-- the result of a step: the state of the node, the change of its kept part that is stored, and its
-- posts in order; a restart has no change, even if its kept part is a loaded record
pub record StepResult (V : Type 0) : Type 0 where
  pub node : Node V
  pub change : Option (Change V)
  pub posts : List (Packet V)

-- nothing happens
abbrev pub unchanged : {V : Type 0} → Node V → StepResult V
unchanged n = record { node = n; change = None; posts = [] }

-- a step without a change of the kept part: the node is n after it, and these are its posts
abbrev pub volatile_step : {V : Type 0} → Node V → List (Packet V) → StepResult V
volatile_step n posts = record { node = n; change = None; posts = posts }

-- the pages received from node k
abbrev pub pages_from : {V : Type 0} → List (List (Option (List (SlotReport V)))) → ℕ → List (Option (List (SlotReport V)))
pages_from pages k = slice_index_or pages k []

-- the page of node k at that index, if it was received
abbrev pub page_of : {V : Type 0} → List (List (Option (List (SlotReport V)))) → ℕ → ℕ → Option (List (SlotReport V))
page_of pages k i = entry_at (pages_from pages k) i

-- the pages once page i of node k is received; one that was received before stays
abbrev pub with_page : {V : Type 0} → List (List (Option (List (SlotReport V)))) → ℕ → ℕ → List (SlotReport V) → List (List (Option (List (SlotReport V))))
with_page pages k i reports =
    if is_some (page_of pages k i) then pages else slice_set pages k (put_at (pages_from pages k) i reports)

-- no page was received from any node
abbrev pub no_pages : {V : Type 0} → List ℕ → List (List (Option (List (SlotReport V))))
no_pages weights = map (λ w. []) weights

abbrev pub is_heard : List Heard → ℕ → Bool
is_heard [] k = false
is_heard (h ∷ hs) k = (h.node == k) || is_heard hs k
