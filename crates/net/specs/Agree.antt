-- Agreement in one world, and between the worlds at two moments of one run.
-- Source: Lamport, Paxos Made Simple, section 2.2; ChosenValuePersists is his P2b.
-- No code computes this; the laws of `agreement` say that it holds, which follows from the steps of
-- the nodes.
use Rattle.std.specs.Prelude.{◌≡◌, ℕ, true, List, ◌++◌, Option, Some, Contains, ◌⊎◌, Ok, slice_get}
use Rattle.net.specs.Words.{Ballot, Packet, Accept, is_below, Event}
use Rattle.net.specs.Chosen.{IsChosen, IsChosenAt}
use Rattle.net.specs.World.{World, after, log, offers_of}

-- the events are taken, and w is the world after them
abbrev pub IsAfter : {V : Type 0} → (V → ℕ) → List ℕ → ℕ → List (Event V) → World V → Type 0
IsAfter size weights limit events w = after size weights limit events ≡ Ok w

-- v was proposed at slot s under ballot b
abbrev pub IsProposed : {V : Type 0} → World V → Ballot → ℕ → Option V → Type 0
IsProposed {V} w b s v = (p : Packet V) × Contains w.packets p × (p.body ≡ Accept b s v)

-- under each ballot at most one value is proposed for a slot
abbrev pub OneValue : {V : Type 0} → World V → Type 0
OneValue {V} w = (b : Ballot) (s : ℕ) (u v : Option V) → IsProposed w b s u → IsProposed w b s v → u ≡ v

-- a value proposed for a slot under a later ballot is the one chosen there under an earlier ballot
abbrev pub ChosenValuePersists : {V : Type 0} → World V → Type 0
ChosenValuePersists {V} w = (b c : Ballot) (s : ℕ) (u v : Option V) → IsChosenAt w.weights w.votes_cast b s u → IsProposed w c s v → is_below b c ≡ true → u ≡ v

-- the values chosen at a slot in the two worlds are equal
abbrev pub ChosenAgree : {V : Type 0} → World V → World V → Type 0
ChosenAgree {V} w x = (s : ℕ) (u v : Option V) → IsChosen w.weights w.votes_cast s u → IsChosen x.weights x.votes_cast s v → u ≡ v

-- each entry of a log is chosen
abbrev pub LogsChosen : {V : Type 0} → World V → Type 0
LogsChosen {V} w = (k s : ℕ) (v : Option V) → slice_get (log w k) s ≡ Some v → IsChosen w.weights w.votes_cast s v

abbrev pub IsPrefixOf : {A : Type 0} → List A → List A → Type 0
IsPrefixOf {A} xs ys = (rest : List A) × (xs ++ rest ≡ ys)

-- one list is a prefix of the other
abbrev pub Agree : {A : Type 0} → List A → List A → Type 0
Agree xs ys = IsPrefixOf xs ys ⊎ IsPrefixOf ys xs

-- of any log in the one world and any log in the other, one is a prefix of the other
abbrev pub LogsAgree : {V : Type 0} → World V → World V → Type 0
LogsAgree w x = (j k : ℕ) → Agree (log w j) (log x k)

-- each entry of a log is a no-operation, or was offered by one of the events
abbrev pub LogsOffered : {V : Type 0} → List (Event V) → World V → Type 0
LogsOffered {V} events w = (k s : ℕ) (v : V) → slice_get (log w k) s ≡ Some (Some v) → Contains (offers_of events) v
