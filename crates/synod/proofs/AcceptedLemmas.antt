-- An Accepted at a slot that is not learned: the sender is counted, and with a quorum the value is
-- learned.
use Rattle.synod.proofs.Words.{◌≡◌, ◌∙◌, ℕ, Bool, true, false, List, [], Option, Some, None, MatchOption, is_some, ap, sym, subst, if◌then◌else◌, entry_at, put_at, front_of, Ballot, Packet, Count, CountAndLearn, Learn, Result, IfOk, is_quorum, Node, StepResult, Core, ReadyView, IsReadyFor, unchanged, volatile_step, kept_of, has_voter, counted, learns_chosen, on_accepted_at, on_accepted, on_told_at, on_told, asks_below, asks_for, LearnerState, assembled, proposer_state, learner_state, with_learner_update}

module _ {V : Type 0} (n : Node V) (p : ℕ) (b : Ballot) (s : ℕ) (v : Option V) (none : entry_at n.learned s ≡ None) where
  abbrev counting : Node V
  counting = record n { tallies = counted n.tallies s b p }

  -- with a quorum the value is chosen, without one the node only counts the vote
  tested : (q : Bool) → is_quorum n.weights (has_voter counting.tallies s b) ≡ q → on_accepted n p b s v ≡ (if q then learns_chosen counting s v else unchanged counting)
  tested q quorum =
      ap (λ (o : Option (Option V)). on_accepted_at o n p b s v) none
      ∙ ap (λ (q : Bool). if q then learns_chosen counting s v else unchanged counting) quorum

  -- without a quorum the learner is updated with the count
  pub is_counted : is_quorum n.weights (has_voter counting.tallies s b) ≡ false → on_accepted n p b s v ≡ volatile_step (with_learner_update n (Count s b p)) []
  is_counted quorum = tested false quorum

  -- with a quorum the learner is updated with the choice, and the node asks for the gap below the
  -- slot, if there is one
  pub completes_quorum : is_quorum n.weights (has_voter counting.tallies s b) ≡ true → (gap : ℕ) → front_of (put_at n.learned s v) ≡ gap
      → on_accepted n p b s v ≡ volatile_step (with_learner_update n (CountAndLearn s b p v)) (asks_below n s gap)
  completes_quorum quorum gap front =
      tested true quorum
      ∙ ap (λ (g : ℕ). volatile_step (with_learner_update n (CountAndLearn s b p v)) (asks_below n s g)) front

-- The same when room has been made first, and the node is given by its parts.

abbrev pub with_learner_state : {V : Type 0} → Node V → LearnerState V → Node V
with_learner_state n l = assembled n.me n.weights (kept_of n) (proposer_state n) l

-- if a look-up finds nothing, the entry does not exist
pub none_is : {X Y : Type 0} (r : Option Y) (e : Option X) (Q : Y → Type 0) (b : Bool) → MatchOption r (e ≡ None) Q → b ≡ is_some r → b ≡ false → e ≡ None
none_is None e Q b none told is_false = none
none_is (Some y) e Q b some told is_false = cc

module _ {V : Type 0} (m n : Node V) (same : m ≡ n) (l : LearnerState V) (room : l ≡ learner_state m) (p : ℕ) (b : Ballot) (s : ℕ) (v : Option V) (none : entry_at m.learned s ≡ None) where
  -- without a quorum the learner is updated with the count
  pub count_step : is_quorum m.weights (has_voter (counted l.tallies s b p) s b) ≡ false → (posts : List (Packet V)) → posts ≡ []
      → on_accepted n p b s v ≡ volatile_step (with_learner_update (with_learner_state m l) (Count s b p)) posts
  count_step quorum posts no_posts =
      ap (λ (x : Node V). on_accepted x p b s v) (sym same)
      ∙ is_counted m p b s v none (ap (λ (x : LearnerState V). is_quorum m.weights (has_voter (counted x.tallies s b p) s b)) (sym room) ∙ quorum)
      ∙ (λ i. volatile_step (with_learner_update (with_learner_state m (sym room i)) (Count s b p)) (sym no_posts i))

  -- with a quorum the learner is updated with the choice of a copy of the value, and the node asks
  -- for the gap below, if there is one
  pub choose_step : (copy : Option V) → is_quorum m.weights (has_voter (counted l.tallies s b p) s b) ≡ true
      → copy ≡ v → (gap : ℕ) → ((w : Option V) → front_of (put_at l.learned s w) ≡ gap) → (posts : List (Packet V)) → posts ≡ asks_below m s gap
      → on_accepted n p b s v ≡ volatile_step (with_learner_update (with_learner_state m l) (CountAndLearn s b p copy)) posts
  choose_step copy quorum copied gap front posts asked =
      ap (λ (x : Node V). on_accepted x p b s v) (sym same)
      ∙ completes_quorum m p b s v none (ap (λ (x : LearnerState V). is_quorum m.weights (has_voter (counted x.tallies s b p) s b)) (sym room) ∙ quorum) gap
      (ap (λ (x : LearnerState V). front_of (put_at x.learned s v)) (sym room) ∙ front v)
      ∙ (λ i. volatile_step (with_learner_update (with_learner_state m (sym room i)) (CountAndLearn s b p (sym copied i))) (sym asked i))

-- A Told at a slot that is not learned: its value is learned, and the sender is asked for the next
-- gap.

module _ {V : Type 0} (m n : Node V) (same : m ≡ n) (l : LearnerState V) (room : l ≡ learner_state m) (p : ℕ) (s : ℕ) (v : Option V) (none : entry_at m.learned s ≡ None) where
  pub told_step : (copy : Option V) → copy ≡ v → (gap : ℕ) → ((w : Option V) → front_of (put_at l.learned s w) ≡ gap)
      → on_told n p s v ≡ volatile_step (with_learner_update (with_learner_state m l) (Learn s copy)) (asks_for m p gap)
  told_step copy copied gap front =
      ap (λ (x : Node V). on_told x p s v) (sym same)
      ∙ ap (λ (o : Option (Option V)). on_told_at o m p s v) none
      ∙ ap (λ (g : ℕ). volatile_step (with_learner_update m (Learn s v)) (asks_for m p g)) (ap (λ (x : LearnerState V). front_of (put_at x.learned s v)) (sym room) ∙ front v)
      ∙ (λ i. volatile_step (with_learner_update (with_learner_state m (sym room i)) (Learn s (sym copied i))) (asks_for m p gap))

-- a result that is ready for a step is ready for an equal step
pub ready_for : {V E : Type 0} (core : Core V) (step other : StepResult V) (r : Result (ReadyView V) E) → step ≡ other → IfOk r (IsReadyFor core other) → IfOk r (IsReadyFor core step)
ready_for {V} core step other r is ready = subst (λ (s : StepResult V). IfOk r (IsReadyFor core s)) (sym is) ready
