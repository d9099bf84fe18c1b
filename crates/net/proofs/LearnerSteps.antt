-- An Accepted, an Ask and a Told preserve the invariant: a learner counts true votes, learns chosen
-- values and tells nothing else.
use Rattle.net.proofs.Words.{◌≡◌, ℕ, Bool, true, false, nat_lt, List, [], ◌∷◌, Option, Some, None, inl, inr, refl, sym, ◌∙◌, subst, if◌then◌else◌, AllByRecursion, SLOTS, entry_at, put_at, In, In-contains, put_either, Ballot, Ask, is_quorum, packet, to_others, Node, unchanged, log_length, has_voter, counted, learns, learns_chosen, on_accepted, on_accepted_at, on_ask, on_ask_at, on_told, on_told_at, counted_either, vote, IsChosen}
use Rattle.net.proofs.Ledger.{proposal, Ledger, IsSound}
use Rattle.net.proofs.Invariant.{HasVoted, NodeHolds, IsTrue}
use Rattle.net.proofs.StepsContinue.{Continues, same_ledger, true_to_others}

module _ {V : Type 0} {offers : List V} {l : Ledger V} (n : Node V) (sound : IsSound n.weights offers l) (holds : NodeHolds n.weights offers l n.me n) where
  -- Learned values.

  -- with a chosen value put at a slot, all learned values are chosen
  put_chosen : (s : ℕ) (v : Option V) → IsChosen n.weights l.votes s v → (t : ℕ) (u : Option V) → entry_at (put_at n.learned s v) t ≡ Some u → IsChosen n.weights l.votes t u
  put_chosen s v chosen t u e = elim (put_either n.learned s t v) [
    | inl put ↦ let same : v ≡ u = cc (put.1, e) in
        subst (λ (t : ℕ). IsChosen n.weights l.votes t u) (sym put.0) (subst (λ (u : Option V). IsChosen n.weights l.votes s u) same chosen)
    | inr same ↦ holds.learner.chosen t u (sym same ∙ e)
  ]

  -- the invariant holds of the node with a chosen value learned
  learns_holds : (s : ℕ) (v : Option V) → IsChosen n.weights l.votes s v → NodeHolds n.weights offers l n.me (learns n s v)
  learns_holds s v chosen = record {
    me = holds.me;
    weights = holds.weights;
    acceptor = holds.acceptor;
    proposer = holds.proposer;
    learner = record { voters = holds.learner.voters; chosen = put_chosen s v chosen };
  }

  -- An Ask is always true.

  -- Asks to the other nodes, if any, are true
  true_ask_below : (m : Node V) (s : ℕ) (t : Bool) → AllByRecursion (IsTrue n.weights l) (if t then to_others m.me m.weights (Ask s) else [])
  true_ask_below m s true = true_to_others n.weights l m.me (Ask s) tt 0 m.weights
  true_ask_below m s false = tt

  -- an Ask to one node, if any, is true
  true_ask_next : (p s : ℕ) (t : Bool) → AllByRecursion (IsTrue n.weights l) (if t then (packet n.me p (Ask s) ∷ []) else [])
  true_ask_next p s true = (tt, tt)
  true_ask_next p s false = tt

  -- learning a chosen value preserves the invariant
  chooses_continues : (s : ℕ) (v : Option V) → IsChosen n.weights l.votes s v → Continues n.weights offers n.me l (learns_chosen n s v)
  chooses_continues s v chosen = same_ledger sound (learns_holds s v chosen) (true_ask_below (learns n s v) (log_length (learns n s v)) (nat_lt (log_length (learns n s v)) s)) refl

  -- with a quorum of true votes counted the node learns the value, else nothing happens; both
  -- preserve the invariant
  counts_either : (b : Ballot) (s : ℕ) (v : Option V) → ((k : ℕ) → has_voter n.tallies s b k ≡ true → In (vote k b s v) l.votes) → (t : Bool) → is_quorum n.weights (has_voter n.tallies s b) ≡ t
      → Continues n.weights offers n.me l (if t then learns_chosen n s v else unchanged n)
  counts_either b s v voted true quorum = chooses_continues s v record {
    ballot = b;
    chosen = record { voters = has_voter n.tallies s b; majority = quorum; voted = λ k e. In-contains _ l.votes (voted k e) };
  }
  counts_either b s v voted false quorum = same_ledger sound holds tt refl

module _ {V : Type 0} {offers : List V} {l : Ledger V} (n : Node V) (sound : IsSound n.weights offers l) (holds : NodeHolds n.weights offers l n.me n) where
  -- An Accepted: its sender voted, and so did each node that was counted before.

  module _ (p : ℕ) (b : Ballot) (s : ℕ) (v : Option V) (voted : In (vote p b s v) l.votes) where
    -- each node counted, including the sender, voted there under that ballot
    counted_voted : (t : ℕ) (c : Ballot) (k : ℕ) → has_voter (counted n.tallies s b p) t c k ≡ true → HasVoted l.votes k c t
    counted_voted t c k e = elim (counted_either n.tallies s b p t c k e) [
      | inl old ↦ holds.learner.voters t c k old
      | inr new ↦ record {
        value = v;
        voted = subst (λ (t : ℕ). In (vote k c t v) l.votes) (sym new.0) (subst (λ (c : Ballot). In (vote k c s v) l.votes) (sym new.1) (subst (λ (k : ℕ). In (vote k b s v) l.votes) new.2 voted));
      }
    ]

    -- each node that voted at the slot under the ballot voted for v, the one value proposed there
    one_vote : (k : ℕ) → HasVoted l.votes k b s → In (vote k b s v) l.votes
    one_vote k h = subst (λ (u : Option V). In (vote k b s u) l.votes) (sound.one_value (proposal b s h.value) (proposal b s v) (sound.backed _ h.voted) (sound.backed _ voted) (refl, refl)) h.voted

    abbrev counting : Node V
    counting = record n { tallies = counted n.tallies s b p }

    -- the invariant holds of the node with the sender counted
    counting_holds : NodeHolds n.weights offers l n.me counting
    counting_holds = record {
      me = holds.me;
      weights = holds.weights;
      acceptor = holds.acceptor;
      proposer = holds.proposer;
      learner = record { voters = counted_voted; chosen = holds.learner.chosen };
    }

    -- an Accepted preserves the invariant, whether the slot is learned or not
    accepted_at : (o : Option (Option V)) → Continues n.weights offers n.me l (on_accepted_at o n p b s v)
    accepted_at (Some u) = same_ledger sound holds tt refl
    accepted_at None = counts_either counting sound counting_holds b s v (λ k e. one_vote k (counted_voted s b k e)) (is_quorum n.weights (has_voter counting.tallies s b)) refl

    -- an Accepted of a vote that was cast preserves the invariant
    pub accepted_continues : Continues n.weights offers n.me l (on_accepted n p b s v)
    accepted_continues = accepted_at (entry_at n.learned s)

  -- An Ask is answered with a learned value.

  -- an Ask is answered with the value learned at the slot, which is chosen, or not at all; both
  -- preserve the invariant
  ask_at : (p s : ℕ) (o : Option (Option V)) → entry_at n.learned s ≡ o → Continues n.weights offers n.me l (on_ask_at o n p s)
  ask_at p s None e = same_ledger sound holds tt refl
  ask_at p s (Some v) e = same_ledger sound holds (holds.learner.chosen s v e, tt) refl

  -- an Ask preserves the invariant
  pub ask_continues : (p s : ℕ) → Continues n.weights offers n.me l (on_ask n p s)
  ask_continues p s = ask_at p s (entry_at n.learned s) refl

  -- A Told carries a chosen value.

  -- a Told of a chosen value preserves the invariant, whether the slot is learned or not
  told_at : (p s : ℕ) (v : Option V) → IsChosen n.weights l.votes s v → (o : Option (Option V)) → Continues n.weights offers n.me l (on_told_at o n p s v)
  told_at p s v chosen (Some u) = same_ledger sound holds tt refl
  told_at p s v chosen None = same_ledger sound (learns_holds n sound holds s v chosen)
      (true_ask_next n sound holds p (log_length (learns n s v)) (nat_lt (log_length (learns n s v)) SLOTS)) refl

  -- a Told of a chosen value preserves the invariant
  pub told_continues : (p s : ℕ) (v : Option V) → IsChosen n.weights l.votes s v → Continues n.weights offers n.me l (on_told n p s v)
  told_continues p s v chosen = told_at p s v chosen (entry_at n.learned s)
