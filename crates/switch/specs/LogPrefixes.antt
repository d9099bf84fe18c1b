-- Prefixes of a node's log, which remain prefixes after an event of the switch.
-- Source: Lamport, Paxos Made Simple, section 3: all servers execute the same sequence of commands,
-- each as far as it has learned it.
-- The code (of `cluster`) tests entry by entry whether entries are a prefix.
use Rattle.std.specs.Prelude.{◌≢◌, ◌≡◌, ◌<◌, ℕ, List, Option, Result, OnErr, length}
use Rattle.switch.specs.Words.{Event, Restart, StepFault, log_after, IsPrefixOf}
use Rattle.switch.specs.Switch.{SwitchView, world_of}

-- there is a node k, and these entries are a prefix of its log in the world after the history
pub record IsLogPrefix {V : Type 0} (size : V → ℕ) (switch : SwitchView V) (k : ℕ) (entries : List (Option V)) : Type 0 where
  pub node : k < length switch.stores
  pub begins : IsPrefixOf entries (log_after (world_of size switch) k)

-- at each node, a prefix of its log remains a prefix
abbrev pub KeepsPrefixes : {V : Type 0} → (V → ℕ) → SwitchView V → SwitchView V → Type 0
KeepsPrefixes {V} size old new = (k : ℕ) (entries : List (Option V)) → IsLogPrefix size old k entries → IsLogPrefix size new k entries

-- a prefix of a node's log remains a prefix, except at a restart of that node; after any error, at
-- every node
pub record EventKeepsPrefixes {V : Type 0} (size : V → ℕ) (e : Event V) (old new : SwitchView V) (result : Result ℕ StepFault) : Type 0 where
  pub others : (k : ℕ) (entries : List (Option V)) → e ≢ Restart k → IsLogPrefix size old k entries → IsLogPrefix size new k entries
  pub after_error : OnErr result (KeepsPrefixes size old new)
  pub nodes : length new.stores ≡ length old.stores
