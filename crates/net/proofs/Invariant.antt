-- The invariant of a world: there is a sound ledger for it. The votes of the ledger are those ever
-- cast; the state of each node and each packet agree with the ledger.
use Rattle.net.proofs.Words.{◌≡◌, ◌≢◌, ℕ, suc, ◌≤◌, true, List, [], ◌∷◌, length, Option, Some, ◌⊎◌, inl, inr, ap, sym, ◌∙◌, slice_get, AllByRecursion, entry_at, In, Ballot, SlotReport, Packet, Body, Prepare, Promise, Accept, Accepted, Nack, Ask, Told, AcceptedEntry, Heard, Role, Idle, Preparing, Leading, Tally, pages_of, joined_pages, Node, pages_from, page_of, has_voter, Upto, Vote, vote, IsChosen, World}
use Rattle.net.proofs.GrowingLists.{all_more}
use Rattle.net.proofs.Ledger.{Begun, begun_as, Promised, Proposal, proposal, Ledger, IsFree, IsBegun, IsSound}
use Rattle.net.proofs.LedgerGrows.{Grows, begun_lasts, chosen_lasts, free_lasts}
use Rattle.net.proofs.LedgerSteps.{AllProposedBelow}

-- The acceptor: its promise is at least each ballot that it promised or voted under, and it holds
-- its highest vote of each slot.

pub record IsHeldFrom {V : Type 0} (accepted : List (Option (AcceptedEntry V))) (x : Vote V) : Type 0 where
  pub entry : AcceptedEntry V
  pub is_held : entry_at accepted x.slot ≡ Some entry
  pub upto : Upto x.ballot entry.ballot

pub record AcceptorHolds {V : Type 0} (promises : List (Promised V)) (votes : List (Vote V)) (k : ℕ) (promise : Ballot) (accepted : List (Option (AcceptedEntry V))) : Type 0 where
  pub promised : (p : Promised V) → In p promises → p.node ≡ k → Upto p.ballot promise
  pub voted : (x : Vote V) → In x votes → x.node ≡ k → Upto x.ballot promise
  pub held_from : (x : Vote V) → In x votes → x.node ≡ k → IsHeldFrom accepted x
  pub held : (s : ℕ) (h : AcceptedEntry V) → entry_at accepted s ≡ Some h → In (vote k h.ballot s h.value) votes

-- The proposer: while it prepares, its pages are true and it has proposed nothing; as a leader, it
-- may propose any value from its next slot on.

-- the page is the one at this index, from 0, of node k's promise of b
pub record IsPage {V : Type 0} (l : Ledger V) (k : ℕ) (b : Ballot) (index : ℕ) (page : List (SlotReport V)) : Type 0 where
  pub promise : Promised V
  pub is_in : In promise l.promises
  pub node : promise.node ≡ k
  pub ballot : promise.ballot ≡ b
  pub place : slice_get (pages_of promise.reports) index ≡ Some page

-- the reports are all that node k's promise of b reports
pub record IsHeard {V : Type 0} (l : Ledger V) (b : Ballot) (k : ℕ) (reports : List (SlotReport V)) : Type 0 where
  pub promise : Promised V
  pub is_in : In promise l.promises
  pub node : promise.node ≡ k
  pub ballot : promise.ballot ≡ b
  pub all : promise.reports ≡ reports

pub record IsPreparing {V : Type 0} (l : Ledger V) (k : ℕ) (b : Ballot) (first : ℕ) (pages : List (List (Option (List (SlotReport V))))) (heard : List Heard) : Type 0 where
  pub mine : b.node ≡ k
  pub begun : In (begun_as b first) l.begun
  pub fresh : (p : Proposal V) → In p l.proposals → p.ballot ≡ b → ⊥
  pub each_page : (j i : ℕ) (page : List (SlotReport V)) → page_of pages j i ≡ Some page → IsPage l j b i page
  pub each_heard : AllByRecursion (λ h. IsHeard l b h.node (joined_pages (pages_from pages h.node) h.count)) heard

pub record IsLeading {V : Type 0} (ws : List ℕ) (l : Ledger V) (k : ℕ) (b : Ballot) (next : ℕ) : Type 0 where
  pub mine : b.node ≡ k
  pub begun : IsBegun l b
  pub below : AllProposedBelow l b next
  pub free : (s : ℕ) → next ≤ s → IsFree ws l b s

abbrev pub RoleHolds : {V : Type 0} → List ℕ → Ledger V → ℕ → Role → List (List (Option (List (SlotReport V)))) → List Heard → Type 0
RoleHolds ws l k Idle pages heard = Unit {0}
RoleHolds ws l k (Preparing b first) pages heard = IsPreparing l k b first pages heard
RoleHolds ws l k (Leading b next) pages heard = IsLeading ws l k b next

pub record ProposerHolds {V : Type 0} (ws : List ℕ) (offers : List V) (l : Ledger V) (k round : ℕ) (role : Role) (pages : List (List (Option (List (SlotReport V))))) (heard : List Heard) (waiting : List V) : Type 0 where
  pub begun : (x : Begun) → In x l.begun → x.ballot.node ≡ k → x.ballot.round ≤ round
  pub as_role : RoleHolds ws l k role pages heard
  pub offered : AllByRecursion (λ v. In v offers) waiting

-- The learner: each node that it counts voted, and each value that it learned is chosen.

pub record HasVoted {V : Type 0} (votes : List (Vote V)) (k : ℕ) (b : Ballot) (s : ℕ) : Type 0 where
  pub value : Option V
  pub voted : In (vote k b s value) votes

pub record LearnerHolds {V : Type 0} (ws : List ℕ) (votes : List (Vote V)) (tallies : List (Option (List Tally))) (learned : List (Option (Option V))) : Type 0 where
  pub voters : (s : ℕ) (b : Ballot) (j : ℕ) → has_voter tallies s b j ≡ true → HasVoted votes j b s
  pub chosen : (s : ℕ) (v : Option V) → entry_at learned s ≡ Some v → IsChosen ws votes s v

-- A node, a packet, a world.

pub record NodeHolds {V : Type 0} (ws : List ℕ) (offers : List V) (l : Ledger V) (k : ℕ) (n : Node V) : Type 0 where
  pub me : n.me ≡ k
  pub weights : n.weights ≡ ws
  pub acceptor : AcceptorHolds l.promises l.votes k n.promise n.accepted
  pub proposer : ProposerHolds ws offers l k n.round n.role n.pages n.heard n.waiting
  pub learner : LearnerHolds ws l.votes n.tallies n.learned

-- the page of a Promise packet, numbered from 1, is that page of node k's promise of b
pub record IsPagePacket {V : Type 0} (l : Ledger V) (k : ℕ) (b : Ballot) (number count : ℕ) (page : List (SlotReport V)) : Type 0 where
  pub promise : Promised V
  pub is_in : In promise l.promises
  pub node : promise.node ≡ k
  pub ballot : promise.ballot ≡ b
  pub counted : count ≡ length (pages_of promise.reports)
  pub index : ℕ
  pub is_number : number ≡ suc index
  pub place : slice_get (pages_of promise.reports) index ≡ Some page

-- the ledger confirms the body of a packet from node k: a ballot begun, a page of a promise, a
-- proposal, a vote or a chosen value
abbrev pub SaysTrue : {V : Type 0} → List ℕ → Ledger V → ℕ → Body V → Type 0
SaysTrue ws l k (Prepare b first) = In (begun_as b first) l.begun
SaysTrue ws l k (Promise b number count page) = IsPagePacket l k b number count page
SaysTrue ws l k (Accept b s v) = In (proposal b s v) l.proposals
SaysTrue ws l k (Accepted b s v) = In (vote k b s v) l.votes
SaysTrue ws l k (Nack b c) = Unit {0}
SaysTrue ws l k (Ask s) = Unit {0}
SaysTrue ws l k (Told s v) = IsChosen ws l.votes s v

abbrev pub IsTrue : {V : Type 0} → List ℕ → Ledger V → Packet V → Type 0
IsTrue ws l p = SaysTrue ws l p.from p.body

-- the invariant holds of each of the nodes, the first of which is node k
abbrev pub NodesHold : {V : Type 0} → List ℕ → List V → Ledger V → ℕ → List (Node V) → Type 0
NodesHold ws offers l k [] = Unit {0}
NodesHold ws offers l k (n ∷ ns) = NodeHolds ws offers l k n × NodesHold ws offers l (suc k) ns

pub record WorldHolds {V : Type 0} (offers : List V) (w : World V) : Type 0 where
  pub ledger : Ledger V
  pub sound : IsSound w.weights offers ledger
  pub nodes : NodesHold w.weights offers ledger 0 w.nodes
  pub packets : AllByRecursion (IsTrue w.weights ledger) w.packets
  pub votes_cast : ledger.votes ≡ w.votes_cast

-- Each of these still holds when the ledger grows.

-- an element that is old or of node k is old, if it is of another node
not_new : {A : Type 0} {x j k : ℕ} → A ⊎ (x ≡ k) → x ≡ j → j ≢ k → A
not_new (inl old) e other = old
not_new (inr d) e other = absurd (other (sym e ∙ d))

module _ {V : Type 0} {k : ℕ} {l m : Ledger V} (g : Grows k l m) where
  -- a page of a promise remains one
  page_lasts : (j : ℕ) (b : Ballot) (i : ℕ) (page : List (SlotReport V)) → IsPage l j b i page → IsPage m j b i page
  page_lasts j b i page h = record { promise = h.promise; is_in = g.promises.old _ h.is_in; node = h.node; ballot = h.ballot; place = h.place }

  -- the reports heard from a node remain all that its promise reports
  heard_lasts : (b : Ballot) (j : ℕ) (reports : List (SlotReport V)) → IsHeard l b j reports → IsHeard m b j reports
  heard_lasts b j reports h = record { promise = h.promise; is_in = g.promises.old _ h.is_in; node = h.node; ballot = h.ballot; all = h.all }

  -- the invariant of a role still holds if its node proposes nothing new
  role_lasts : (ws : List ℕ) (j : ℕ) (role : Role) (pages : List (List (Option (List (SlotReport V))))) (heard : List Heard)
      → ((p : Proposal V) → In p m.proposals → p.ballot.node ≡ j → In p l.proposals) → RoleHolds ws l j role pages heard → RoleHolds ws m j role pages heard
  role_lasts ws j Idle pages heard old h = tt
  role_lasts ws j (Preparing b first) pages heard old h = record {
    mine = h.mine;
    begun = g.begun.old _ h.begun;
    fresh = λ p i e. h.fresh p (old p i (ap (λ (c : Ballot). c.node) e ∙ h.mine)) e;
    each_page = λ q i page e. page_lasts q b i page (h.each_page q i page e);
    each_heard = all_more _ _ heard (λ x y. heard_lasts b x.node (joined_pages (pages_from pages x.node) x.count) y) h.each_heard;
  }
  role_lasts ws j (Leading b next) pages heard old h = record {
    mine = h.mine;
    begun = begun_lasts g b h.begun;
    below = λ p i e. h.below p (old p i (ap (λ (c : Ballot). c.node) e ∙ h.mine)) e;
    free = λ s le. free_lasts g (h.free s le);
  }

  -- the invariant of a proposer still holds if its node begins no ballot and proposes nothing new
  pub proposer_lasts : (ws : List ℕ) (offers : List V) (j round : ℕ) (role : Role) (pages : List (List (Option (List (SlotReport V))))) (heard : List Heard) (waiting : List V)
      → ((x : Begun) → In x m.begun → x.ballot.node ≡ j → In x l.begun) → ((p : Proposal V) → In p m.proposals → p.ballot.node ≡ j → In p l.proposals)
      → ProposerHolds ws offers l j round role pages heard waiting → ProposerHolds ws offers m j round role pages heard waiting
  proposer_lasts ws offers j round role pages heard waiting old_begun old_proposed h = record {
    begun = λ x i e. h.begun x (old_begun x i e) e;
    as_role = role_lasts ws j role pages heard old_proposed h.as_role;
    offered = h.offered;
  }

  -- the invariant of a learner still holds: votes remain, and a chosen value remains chosen
  pub learner_lasts : (ws : List ℕ) (tallies : List (Option (List Tally))) (learned : List (Option (Option V))) → LearnerHolds ws l.votes tallies learned → LearnerHolds ws m.votes tallies learned
  learner_lasts ws tallies learned h = record {
    voters = λ s b j e. let v = h.voters s b j e in record { value = v.value; voted = g.votes.old _ v.voted };
    chosen = λ s v e. chosen_lasts g (h.chosen s v e);
  }

  -- the invariant of a node still holds after another node acts
  pub node_lasts : (ws : List ℕ) (offers : List V) (j : ℕ) → j ≢ k → (n : Node V) → NodeHolds ws offers l j n → NodeHolds ws offers m j n
  node_lasts ws offers j other n h =
      let old_vote : (x : Vote V) → In x m.votes → x.node ≡ j → In x l.votes = λ x i e. elim (g.votes.new x i) [ inl old ↦ old | inr new ↦ absurd (other (sym e ∙ new.0)) ] in
      record {
        me = h.me;
        weights = h.weights;
        acceptor = record {
          promised = λ p i e. h.acceptor.promised p (not_new (g.promises.new p i) e other) e;
          voted = λ x i e. h.acceptor.voted x (old_vote x i e) e;
          held_from = λ x i e. h.acceptor.held_from x (old_vote x i e) e;
          held = λ s x e. g.votes.old _ (h.acceptor.held s x e);
        };
        proposer = proposer_lasts ws offers j n.round n.role n.pages n.heard n.waiting (λ x i e. not_new (g.begun.new x i) e other) (λ p i e. not_new (g.proposals.new p i) e other) h.proposer;
        learner = learner_lasts ws n.tallies n.learned h.learner;
      }

  -- a true body remains true
  pub truth_lasts : (ws : List ℕ) (j : ℕ) (body : Body V) → SaysTrue ws l j body → SaysTrue ws m j body
  truth_lasts ws j (Prepare b first) h = g.begun.old _ h
  truth_lasts ws j (Promise b number count page) h = record { promise = h.promise; is_in = g.promises.old _ h.is_in; node = h.node; ballot = h.ballot; counted = h.counted; index = h.index; is_number = h.is_number; place = h.place }
  truth_lasts ws j (Accept b s v) h = g.proposals.old _ h
  truth_lasts ws j (Accepted b s v) h = g.votes.old _ h
  truth_lasts ws j (Nack b c) h = tt
  truth_lasts ws j (Ask s) h = tt
  truth_lasts ws j (Told s v) h = chosen_lasts g h
