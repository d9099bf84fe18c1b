-- The ledger of a run: ballots begun, promises, proposals and votes, in four lists that only grow,
-- the newest first.
-- It exists only in the proof, beside the world; the argument about it needs no nodes and no
-- packets.
use Rattle.net.proofs.Words.{◌≡◌, ℕ, Bool, true, List, [], ◌∷◌, Option, Some, None, ◌⊎◌, inl, ◌≤◌, In, Ballot, SlotReport, is_quorum, Under, Upto, Vote, vote}
use Rattle.net.proofs.GrowingLists.{Settles}

-- a ballot was begun, for the slots from `first` on
pub record Begun : Type 0 where
  pub ballot : Ballot
  pub first : ℕ

abbrev pub begun_as : Ballot → ℕ → Begun
begun_as b first = record { ballot = b; first = first }

-- a node promised a ballot, and reported its votes from slot `first` on
pub record Promised (V : Type 0) : Type 0 where
  pub node : ℕ
  pub ballot : Ballot
  pub first : ℕ
  pub reports : List (SlotReport V)

pub record Proposal (V : Type 0) : Type 0 where
  pub ballot : Ballot
  pub slot : ℕ
  pub value : Option V

abbrev pub proposal : {V : Type 0} → Ballot → ℕ → Option V → Proposal V
proposal b s v = record { ballot = b; slot = s; value = v }

pub record Ledger (V : Type 0) : Type 0 where
  pub begun : List Begun
  pub promises : List (Promised V)
  pub proposals : List (Proposal V)
  pub votes : List (Vote V)

-- Lamport's condition on a proposal, P2c of section 2.2.

pub record HasPromised {V : Type 0} (l : Ledger V) (k : ℕ) (b : Ballot) : Type 0 where
  pub promise : Promised V
  pub is_in : In promise l.promises
  pub node : promise.node ≡ k
  pub ballot : promise.ballot ≡ b

-- no node of the quorum voted at s under a ballot below b
abbrev pub NoneVoted : {V : Type 0} → Ledger V → (ℕ → Bool) → Ballot → ℕ → Type 0
NoneVoted {V} l quorum b s = (x : Vote V) → In x l.votes → quorum x.node ≡ true → x.slot ≡ s → Under x.ballot b → ⊥

-- an older proposal, under a ballot below b, is for v at slot s, and no node of the quorum voted
-- there under a ballot in between
pub record HighestVoted {V : Type 0} (l : Ledger V) (older : List (Proposal V)) (quorum : ℕ → Bool) (b : Ballot) (s : ℕ) (v : Option V) : Type 0 where
  pub ballot : Ballot
  pub under : Under ballot b
  pub proposed : In (proposal ballot s v) older
  pub highest : (x : Vote V) → In x l.votes → quorum x.node ≡ true → x.slot ≡ s → Under x.ballot b → Upto x.ballot ballot

-- a quorum promised b, and its votes at s below b are none, or the highest is for v
pub record IsGrounded {V : Type 0} (ws : List ℕ) (l : Ledger V) (older : List (Proposal V)) (b : Ballot) (s : ℕ) (v : Option V) : Type 0 where
  pub quorum : ℕ → Bool
  pub majority : is_quorum ws quorum ≡ true
  pub promised : (k : ℕ) → quorum k ≡ true → HasPromised l k b
  pub picks : NoneVoted l quorum b s ⊎ HighestVoted l older quorum b s v

-- any value may be proposed at s under b: a quorum promised b and cast no votes at s below b
pub record IsFree {V : Type 0} (ws : List ℕ) (l : Ledger V) (b : Ballot) (s : ℕ) : Type 0 where
  pub quorum : ℕ → Bool
  pub majority : is_quorum ws quorum ≡ true
  pub promised : (k : ℕ) → quorum k ≡ true → HasPromised l k b
  pub none : NoneVoted l quorum b s

-- if any value may be proposed at s under b, each proposal there is grounded
pub free_grounded : {V : Type 0} {ws : List ℕ} {l : Ledger V} {b : Ballot} {s : ℕ} (older : List (Proposal V)) (v : Option V) → IsFree ws l b s → IsGrounded ws l older b s v
free_grounded older v free = record { quorum = free.quorum; majority = free.majority; promised = free.promised; picks = inl free.none }

-- each proposal is grounded in those older than itself
abbrev pub AllGrounded : {V : Type 0} → List ℕ → Ledger V → List (Proposal V) → Type 0
AllGrounded ws l [] = Unit {0}
AllGrounded ws l (p ∷ older) = IsGrounded ws l older p.ballot p.slot p.value × AllGrounded ws l older

-- The facts that a promise states.

-- one of the reports is of the vote's slot, under the vote's ballot or a higher one
pub record HasHigher {V : Type 0} (reports : List (SlotReport V)) (x : Vote V) : Type 0 where
  pub report : SlotReport V
  pub is_in : In report reports
  pub slot : report.slot ≡ x.slot
  pub upto : Upto x.ballot report.ballot

-- the report is of a vote of the promising node, below the promised ballot and at a slot not below
-- `first`
pub record IsBacked {V : Type 0} (l : Ledger V) (p : Promised V) (r : SlotReport V) : Type 0 where
  pub first : p.first ≤ r.slot
  pub under : Under r.ballot p.ballot
  pub voted : In (vote p.node r.ballot r.slot r.value) l.votes

-- at each slot from `first` on the promise reports the highest vote of its node below its ballot,
-- and it reports votes only
pub record IsTruthful {V : Type 0} (l : Ledger V) (p : Promised V) : Type 0 where
  pub begun : In (begun_as p.ballot p.first) l.begun
  pub reported : (x : Vote V) → In x l.votes → x.node ≡ p.node → p.first ≤ x.slot → Under x.ballot p.ballot → HasHigher p.reports x
  pub backed : (r : SlotReport V) → In r p.reports → IsBacked l p r

-- The invariant of the ledger.

pub record IsBegun {V : Type 0} (l : Ledger V) (b : Ballot) : Type 0 where
  pub first : ℕ
  pub is_in : In (begun_as b first) l.begun

-- the value is a no-operation or was offered
abbrev pub IsBrought : {V : Type 0} → List V → Option V → Type 0
IsBrought offers None = Unit {0}
IsBrought offers (Some v) = In v offers

abbrev pub OneBallot : Begun → Begun → Type 0
OneBallot x y = x.ballot ≡ y.ballot

abbrev pub OnePromise : {V : Type 0} → Promised V → Promised V → Type 0
OnePromise p q = (p.node ≡ q.node) × (p.ballot ≡ q.ballot)

abbrev pub OnePlace : {V : Type 0} → Proposal V → Proposal V → Type 0
OnePlace p q = (p.ballot ≡ q.ballot) × (p.slot ≡ q.slot)

pub record IsSound {V : Type 0} (ws : List ℕ) (offers : List V) (l : Ledger V) : Type 0 where
  pub one_value : Settles OnePlace (λ p. p.value) l.proposals  -- one value a ballot and slot
  pub backed : (x : Vote V) → In x l.votes → In (proposal x.ballot x.slot x.value) l.proposals
  pub grounded : AllGrounded ws l l.proposals
  pub brought : (p : Proposal V) → In p l.proposals → IsBrought offers p.value
  pub proposed_begun : (p : Proposal V) → In p l.proposals → IsBegun l p.ballot
  pub begun_once : Settles OneBallot (λ x. x.first) l.begun
  pub promised_once : Settles OnePromise (λ p. p.reports) l.promises
  pub truthful : (p : Promised V) → In p l.promises → IsTruthful l p
