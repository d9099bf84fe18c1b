-- The laws of the world, after every list of events of which none meets a fault, for any weights,
-- any limit on events and any values.
-- Source: Lamport, Paxos Made Simple, section 2.2.
-- A law has no code; it is about the steps of nodes that the contracts of `synod` cite.
use Rattle.std.specs.Prelude.{◌≡◌, ◌≢◌, ℕ, List, [], ◌∷◌, ◌++◌, Some, Ok}
use Rattle.net.specs.Words.{option_map, changed_by, Event, Restart}
use Rattle.net.specs.World.{World, event_result, log}
use Rattle.net.specs.Agree.{IsAfter, OneValue, ChosenValuePersists, ChosenAgree, LogsChosen, IsPrefixOf, LogsAgree, LogsOffered}
use Rattle.net.specs.KeptPart.{kept_part, node_of, change_of, AreOfOthers}

-- the fact holds of the world after any events
abbrev pub Always : {V : Type 0} → (List (Event V) → World V → Type 0) → Type 0
Always {V} fact = (size : V → ℕ) (weights : List ℕ) (limit : ℕ) (events : List (Event V)) (w : World V) → IsAfter size weights limit events w → fact events w

-- the fact holds of the worlds at any two moments of a run
abbrev pub AtTwoMoments : {V : Type 0} → (World V → World V → Type 0) → Type 0
AtTwoMoments {V} fact = (size : V → ℕ) (weights : List ℕ) (limit : ℕ) (early late : List (Event V)) (w x : World V)
    → IsAfter size weights limit early w → IsAfter size weights limit (early ++ late) x → fact w x

-- Agreement.

-- under one ballot at most one value is proposed for a slot
abbrev pub BallotsHaveOneValue : Type 0 → Type 0
BallotsHaveOneValue V = Always {V = V} (λ events w. OneValue w)

-- a later ballot's value at a slot is the one chosen there under an earlier ballot
abbrev pub ChosenValuesPersist : Type 0 → Type 0
ChosenValuesPersist V = Always {V = V} (λ events w. ChosenValuePersists w)

-- values chosen at one slot at any two moments are equal
abbrev pub ChosenValuesAgree : Type 0 → Type 0
ChosenValuesAgree V = AtTwoMoments {V = V} (λ w x. ChosenAgree w x)

-- an entry of a log is chosen
abbrev pub LogEntriesAreChosen : Type 0 → Type 0
LogEntriesAreChosen V = Always {V = V} (λ events w. LogsChosen w)

-- the logs of any two nodes at any two moments agree
abbrev pub LogsOfNodesAgree : Type 0 → Type 0
LogsOfNodesAgree V = AtTwoMoments {V = V} (λ w x. LogsAgree w x)

-- each entry of a log is a no-operation or was offered
abbrev pub LogEntriesWereOffered : Type 0 → Type 0
LogEntriesWereOffered V = Always {V = V} (λ events w. LogsOffered events w)

-- The kept part.

-- after an event e and then a restart of node k, the kept part of k is the one before e with the
-- change of e, whatever happens at other nodes in between; so it does not matter whether any packet
-- of e is delivered to them
abbrev pub KeptPartSurvives : Type 0 → Type 0
KeptPartSurvives V = (size : V → ℕ) (weights : List ℕ) (limit : ℕ) (events others : List (Event V)) (e : Event V) (k : ℕ) (w x y : World V)
    → IsAfter size weights limit events w → event_result size w e ≡ Ok x → node_of w e ≡ Some k → AreOfOthers size k (Ok x) others
    → IsAfter size weights limit (events ++ e ∷ (others ++ Restart k ∷ [])) y
    → kept_part y k ≡ option_map (λ kept. changed_by kept (change_of size w e)) (kept_part w k)

-- Logs.

-- after an event other than a restart of node k, the old log of k is a prefix of the new one
abbrev pub LogsOnlyGrow : Type 0 → Type 0
LogsOnlyGrow V = (size : V → ℕ) (weights : List ℕ) (limit : ℕ) (events : List (Event V)) (e : Event V) (k : ℕ) (w x : World V)
    → IsAfter size weights limit events w → event_result size w e ≡ Ok x → e ≢ Restart k → IsPrefixOf (log w k) (log x k)

-- a restart of node k empties its log
abbrev pub RestartEmptiesLog : Type 0 → Type 0
RestartEmptiesLog V = (size : V → ℕ) (weights : List ℕ) (limit : ℕ) (events : List (Event V)) (k : ℕ) (w x : World V)
    → IsAfter size weights limit events w → event_result size w (Restart k) ≡ Ok x → log x k ≡ []
