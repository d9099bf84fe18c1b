-- A crash of all nodes: what it leaves, and the run that goes on from that.
-- Source: Lamport, Paxos Made Simple, section 2.5: after a restart an acceptor knows what it has in
-- stable storage, and nothing else. A packet that is never delivered is a lost one.
-- The code stores the change of an event before it commits the event, and a crash may come between
-- the two, at several nodes. The new process numbers its packets and counts its events from 0.
use Rattle.std.specs.Prelude.{◌≡◌, ◌≢◌, ℕ, suc, ◌+◌, Bool, false, ◌==◌, List, [], ◌∷◌, ◌++◌, length, map, Option, Some, None, Ok, IsOk, if◌then◌else◌}
use Rattle.net.specs.Words.{AllByRecursion, option_map, KeptPart, Packet, changed_by, kept_of, Event, Offer, Begin, Deliver, Restart}
use Rattle.net.specs.World.{World, resumed, event_result_without_limit, events_result}
use Rattle.net.specs.KeptPart.{change_of, kept_part, node_of}
use Rattle.net.specs.Agree.{IsAfter, LogsAgree}
use Rattle.net.specs.History.{History, world_of}

-- the kept part of each node
abbrev pub kept_parts : {V : Type 0} → World V → List (KeptPart V)
kept_parts w = map kept_of w.nodes

-- What a crash leaves.

-- none of these events is one of the node of e
abbrev pub AreOfOtherNodes : {V : Type 0} → World V → Event V → List (Event V) → Type 0
AreOfOtherNodes w e ds = AllByRecursion (λ d. node_of w d ≢ node_of w e) ds

-- the events whose changes reached the stores before the crash, and that were not committed: in
-- world w each is taken, and no two are of one node
abbrev pub AreUnderWay : {V : Type 0} → (V → ℕ) → World V → List (Event V) → Type 0
AreUnderWay size w [] = Unit {0}
AreUnderWay size w (e ∷ es) = IsOk (event_result_without_limit size w e) × AreOfOtherNodes w e es × AreUnderWay size w es

abbrev pub is_node : Option ℕ → ℕ → Bool
is_node None k = false
is_node (Some j) k = j == k

-- the kept part of node k that is found after the crash: with the change of its event under way
abbrev pub found_part : {V : Type 0} → (V → ℕ) → World V → List (Event V) → ℕ → Option (KeptPart V)
found_part size w [] k = kept_part w k
found_part size w (e ∷ es) k =
    if is_node (node_of w e) k then option_map (λ kept. changed_by kept (change_of size w e)) (kept_part w k) else found_part size w es k

-- the history with these events after its own, under a limit that is greater by their number
abbrev pub with_events : {V : Type 0} → History V → List (Event V) → History V
with_events history es = record { weights = history.weights; event_limit = history.event_limit + length es; begins = history.begins; events = history.events ++ es }

-- the history is taken, and the kept parts after it are those that are found
pub record IsLeft {V : Type 0} (size : V → ℕ) (history : History V) (found : ℕ → Option (KeptPart V)) : Type 0 where
  pub world : World V
  pub is_after : world_of size history ≡ Ok world
  pub parts : (k : ℕ) → kept_part world k ≡ found k

-- whatever a crash leaves, it is what the events before it leave, with those under way after them
abbrev pub CrashesLeaveEvents : Type 0 → Type 0
CrashesLeaveEvents V = (size : V → ℕ) (history : History V) (under_way : List (Event V)) (w : World V)
    → world_of size history ≡ Ok w → AreUnderWay size w under_way
    → IsLeft size (with_events history under_way) (found_part size w under_way)

-- What goes on from there.

-- the restarts of the nodes with these kept parts, from node k on
abbrev pub restarts_from : {V : Type 0} → ℕ → List (KeptPart V) → List (Event V)
restarts_from k [] = []
restarts_from k (kept ∷ parts) = Restart k ∷ restarts_from (suc k) parts

-- an event of a process, where this many packets were posted before it began
abbrev pub shifted : {V : Type 0} → ℕ → Event V → Event V
shifted posted (Offer k v) = Offer k v
shifted posted (Begin k) = Begin k
shifted posted (Deliver number) = Deliver (posted + number)
shifted posted (Restart k) = Restart k

-- The events before a crash, the restarts of all nodes, and the events after it are one run, at the
-- end of which the nodes are those of world x; what was posted before is lost.
pub record IsOneRun {V : Type 0} (size : V → ℕ) (weights : List ℕ) (limit : ℕ)
    (early : List (Event V)) (parts : List (KeptPart V)) (lost : List (Packet V)) (late : List (Event V)) (x : World V) : Type 0 where
  pub world : World V
  pub is_after : IsAfter size weights limit (early ++ (restarts_from 0 parts ++ map (shifted (length lost)) late)) world
  pub nodes : world.nodes ≡ x.nodes
  pub packets : world.packets ≡ lost ++ x.packets

-- whatever events were taken before a crash, events of a process that begins with the kept parts
-- that the crash left go on with that run
abbrev pub CrashesOnlyRestart : Type 0 → Type 0
CrashesOnlyRestart V = (size : V → ℕ) (weights : List ℕ) (limit : ℕ) (early : List (Event V)) (w : World V) (late_limit : ℕ) → IsAfter size weights limit early w
    → (lost : List (Packet V)) × ((late : List (Event V)) (x : World V) → events_result size late (Ok (resumed weights late_limit (kept_parts w))) ≡ Ok x
    → IsOneRun size weights (limit + length (kept_parts w) + late_limit) early (kept_parts w) lost late x)

-- of the logs of any two nodes, the one at any moment before a crash and the other after it, one is
-- a prefix of the other
abbrev pub LogsAgreeAcrossCrash : Type 0 → Type 0
LogsAgreeAcrossCrash V = (size : V → ℕ) (weights : List ℕ) (limit : ℕ) (early more : List (Event V)) (v w : World V) (late_limit : ℕ) (late : List (Event V)) (x : World V)
    → IsAfter size weights limit early v → IsAfter size weights limit (early ++ more) w
    → events_result size late (Ok (resumed weights late_limit (kept_parts w))) ≡ Ok x
    → LogsAgree v x
