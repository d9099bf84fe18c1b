-- Chosen values: a quorum accepted the value at one slot under one ballot.
-- Source: Lamport, Paxos Made Simple, section 2.2.
-- The code keeps the last value accepted at a slot; the votes here are all that were ever cast.
use Rattle.std.specs.Prelude.{◌≡◌, ℕ, Bool, true, List, Contains, Option}
use Rattle.net.specs.Words.{Ballot, is_quorum}

-- a vote: the node accepted the value at the slot under the ballot; the value None is a
-- no-operation
pub record Vote (V : Type 0) : Type 0 where
  pub node : ℕ
  pub ballot : Ballot
  pub slot : ℕ
  pub value : Option V

abbrev pub vote : {V : Type 0} → ℕ → Ballot → ℕ → Option V → Vote V
vote k b s v = record { node = k; ballot = b; slot = s; value = v }

-- the nodes of a quorum voted for the value at the slot under this ballot
pub record IsChosenAt {V : Type 0} (weights : List ℕ) (votes : List (Vote V)) (ballot : Ballot) (slot : ℕ) (value : Option V) : Type 0 where
  pub voters : ℕ → Bool
  pub majority : is_quorum weights voters ≡ true
  pub voted : (k : ℕ) → voters k ≡ true → Contains votes (vote k ballot slot value)

-- a quorum voted for the value at the slot under some ballot
pub record IsChosen {V : Type 0} (weights : List ℕ) (votes : List (Vote V)) (slot : ℕ) (value : Option V) : Type 0 where
  pub ballot : Ballot
  pub chosen : IsChosenAt weights votes ballot slot value
