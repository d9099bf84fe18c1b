-- A value chosen under a ballot is the value of each proposal for its slot under a later ballot.
-- A later proposal is grounded in a quorum, which shares a node with the quorum that chose. That
-- node promised the later ballot and voted under the earlier one, so it voted before it promised.
-- So the proposal's value is that of an older proposal, under a ballot in between, to which the
-- claim applies in turn. No proposal refers to a newer one, so the induction terminates.
use Rattle.net.proofs.Words.{◌≡◌, ℕ, List, [], ◌∷◌, Option, inl, inr, refl, sym, subst, In, Contains-in, Ballot, Under, upto_splits, under_true, quorums_meet, Vote, vote, IsChosenAt, ChosenValuesPersist}
use Rattle.net.proofs.EveryEvent.{holds_after}
use Rattle.net.proofs.OneValue.{proposed_in}
use Rattle.net.proofs.Ledger.{Proposal, proposal, Ledger, AllGrounded, IsSound}

module _ {V : Type 0} (ws : List ℕ) (offers : List V) (l : Ledger V) (sound : IsSound ws offers l) where
  -- if a value is chosen at the slot of one of the older proposals under an earlier ballot, it is
  -- the proposal's value
  later_at : (older : List (Proposal V)) → AllGrounded ws l older → ((p : Proposal V) → In p older → In p l.proposals)
      → (p : Proposal V) → In p older → (b : Ballot) (v : Option V) → IsChosenAt ws l.votes b p.slot v → Under b p.ballot → v ≡ p.value
  later_at [] grounded known p i b v = elim i [ ]
  later_at (x ∷ older) grounded known p (inl e) b v = subst (λ (p : Proposal V). IsChosenAt ws l.votes b p.slot v → Under b p.ballot → v ≡ p.value) e (λ chosen under.
      let shared = quorums_meet ws grounded.0.quorum chosen.voters grounded.0.majority chosen.majority in
      let voted = Contains-in _ l.votes (chosen.voted shared.0 shared.2) in
      elim grounded.0.picks [
        | inl none ↦ absurd (none (vote shared.0 b x.slot v) voted shared.1 refl under)
        | inr most ↦ elim (upto_splits b most.ballot (most.highest (vote shared.0 b x.slot v) voted shared.1 refl under)) [
          | inl between ↦ later_at older grounded.1 (λ q i. known q (inr i)) (proposal most.ballot x.slot x.value) most.proposed b v chosen between
          | inr same ↦ sound.one_value (proposal b x.slot v) (proposal most.ballot x.slot x.value) (sound.backed _ voted) (known _ (inr most.proposed)) (same, refl)
        ]
      ])
  later_at (x ∷ older) grounded known p (inr i) b v = later_at older grounded.1 (λ q j. known q (inr j)) p i b v

  -- if a value is chosen at the slot of a proposal under an earlier ballot, it is the proposal's
  -- value
  pub later_value : (p : Proposal V) → In p l.proposals → (b : Ballot) (v : Option V) → IsChosenAt ws l.votes b p.slot v → Under b p.ballot → v ≡ p.value
  later_value p i b v chosen under = later_at l.proposals sound.grounded (λ q j. j) p i b v chosen under

-- if a value is chosen at a slot under an earlier ballot, an Accept for that slot proposes this
-- value
pub later_ballots_keep_chosen : {V : Type 0} → ChosenValuesPersist V
later_ballots_keep_chosen {V} size ws limit events w is_after b c s u v chosen p under =
    let h = holds_after size ws limit events w is_after in
    later_value w.weights _ h.ledger h.sound (proposal c s v) (proposed_in _ w h c s v p) b u
    (subst (λ (votes : List (Vote V)). IsChosenAt w.weights votes b s u) (sym h.votes_cast) chosen) (under_true b c under)
