-- A process whose nodes begin with what an earlier run left: it goes on with that run.
-- Source: Lamport, Paxos Made Simple, section 2.5: after a restart an acceptor knows what it has in
-- stable storage, and nothing else.
-- No code computes this. That the kept parts are those of an earlier run is a premise: no contract
-- says what a file gives.
use Rattle.std.specs.Prelude.{◌≡◌, ◌⊎◌, ℕ, ◌+◌, List, ◌++◌, length, map, Ok, slice_get, slice_set}
use Rattle.net.specs.Words.{Core, Event, KeptPart, Packet, restarted_node}
use Rattle.net.specs.World.{World, events_result, log, log_after}
use Rattle.net.specs.KeptPart.{kept_part, AreOfOthers}
use Rattle.net.specs.Agree.{IsAfter, IsPrefixOf, LogsAgree}
use Rattle.net.specs.History.{AreOfWorld, History, new_history, first_world, world_of, BeginsNew}
use Rattle.net.specs.Staged.{NetView}
use Rattle.net.specs.Agreement.{IsMoment, Agreement}
use Rattle.net.specs.Crash.{kept_parts, restarts_from, shifted}

-- nothing happens at node k in the history
abbrev pub IsIdle : {V : Type 0} → (V → ℕ) → History V → ℕ → Type 0
IsIdle size history k = AreOfOthers size k (Ok (first_world history)) history.events

-- a run of new nodes that left the kept parts with which the nodes of the history begin; a node at
-- which nothing happens may begin with any
pub record RunBefore {V : Type 0} (size : V → ℕ) (history : History V) : Type 0 where
  pub limit : ℕ
  pub events : List (Event V)
  pub world : World V
  pub is_after : IsAfter size history.weights limit events world
  pub left : (k : ℕ) → (slice_get history.begins k ≡ kept_part world k) ⊎ IsIdle size history k

-- the events of the run before, the restarts of all nodes, and then these events of the history,
-- behind the packets that are lost
abbrev pub joined : {V : Type 0} {size : V → ℕ} {history : History V} → RunBefore size history → List (Packet V) → List (Event V) → List (Event V)
joined before lost late = before.events ++ (restarts_from 0 (kept_parts before.world) ++ map (shifted (length lost)) late)

-- the run before and the history as one history of new nodes
abbrev pub one_run : {V : Type 0} {size : V → ℕ} {history : History V} → RunBefore size history → List (Packet V) → History V
one_run {history = history} before lost =
    new_history history.weights (before.limit + length (kept_parts before.world) + history.event_limit) (joined before lost history.events)

-- the run has these first events, after which each node has the log that it has in world w
pub record HasLogsAfter {V : Type 0} (size : V → ℕ) (run : History V) (events : List (Event V)) (w : World V) : Type 0 where
  pub world : World V
  pub begins : IsPrefixOf events run.events
  pub is_after : events_result size events (Ok (first_world run)) ≡ Ok world
  pub logs : (k : ℕ) → log world k ≡ log w k

-- w is the world at a moment of the history, or of the run before it
abbrev pub IsMomentOfEither : {V : Type 0} {size : V → ℕ} {history : History V} → RunBefore size history → World V → Type 0
IsMomentOfEither {size = size} {history = history} before w = IsMoment size (new_history history.weights before.limit before.events) w ⊎ IsMoment size history w

-- the history goes on with the run before it
pub record GoesOn {V : Type 0} (size : V → ℕ) (history : History V) (before : RunBefore size history) : Type 0 where
  -- the packets that were posted before and are never delivered
  pub lost : List (Packet V)
  -- agreement holds of the one run
  pub agreement : Agreement size (one_run before lost)
  -- each moment of the history is one of that run, as to the logs
  pub moments : (w : World V) (moment : IsMoment size history w) → HasLogsAfter size (one_run before lost) (joined before lost moment.early) w
  -- of the logs of any two nodes, at any two moments of either, one is a prefix of the other
  pub logs_agree : (v w : World V) → IsMomentOfEither before v → IsMomentOfEither before w → LogsAgree v w

-- each history that is taken goes on with each run that left what it begins with
abbrev pub HistoriesGoOn : Type 0 → Type 0
HistoriesGoOn V = (size : V → ℕ) (history : History V) (w : World V) → world_of size history ≡ Ok w → (before : RunBefore size history) → GoesOn size history before

-- what new nodes begin with is left by a run without events
abbrev pub NewPartsAreLeft : Type 0 → Type 0
NewPartsAreLeft V = (size : V → ℕ) (history : History V) → BeginsNew history → RunBefore size history

-- What is left when such a process ends.

-- one run of new nodes, after which each node has the kept part that it has in world w; but for
-- nodes at which nothing happened, which may have what the run before left there
pub record IsLeftByRun {V : Type 0} (size : V → ℕ) (history : History V) (before : RunBefore size history) (w : World V) : Type 0 where
  pub limit : ℕ
  pub events : List (Event V)
  pub world : World V
  pub is_after : IsAfter size history.weights limit events world
  pub parts : (k : ℕ) → (kept_part world k ≡ kept_part w k) ⊎ (IsIdle size history k × (kept_part world k ≡ kept_part before.world k))

-- each history that is taken leaves what one run of new nodes leaves, if it goes on with an earlier
-- run; so the next process goes on with both, and so on after any number of crashes
abbrev pub RunsAreLeft : Type 0 → Type 0
RunsAreLeft V = (size : V → ℕ) (history : History V) (w : World V) → world_of size history ≡ Ok w → (before : RunBefore size history) → IsLeftByRun size history before w

-- A node at which nothing happened begins again, with what its stable storage has now.

-- the history of nodes of which node k began with this kept part
abbrev pub with_begin : {V : Type 0} → History V → ℕ → KeptPart V → History V
with_begin history k kept = record { weights = history.weights; event_limit = history.event_limit; begins = slice_set history.begins k kept; events = history.events }

-- node k is as it begins with this kept part; the other nodes, all logs and the packets are as
-- before
pub record BeginsAgain {V : Type 0} (size : V → ℕ) (old new : NetView V) (k : ℕ) (kept : KeptPart V) : Type 0 where
  pub history : new.history ≡ with_begin old.history k kept
  pub core : Core V
  pub node : core.node ≡ restarted_node k old.history.weights kept
  pub cores : new.cores ≡ slice_set old.cores k core
  pub packets : new.packets ≡ old.packets
  -- the events are taken by nodes that began so
  pub world : AreOfWorld size new.history new.cores new.packets
  pub logs : (j : ℕ) → log_after (world_of size new.history) j ≡ log_after (world_of size old.history) j
  -- a node at which nothing happened is still one
  pub idle : (j : ℕ) → IsIdle size old.history j → IsIdle size new.history j
