-- Two values chosen at one slot are equal. Under one ballot only one value is proposed there; under
-- two, the later one proposes the value chosen under the earlier.
use Rattle.net.proofs.Words.{◌≡◌, ℕ, List, Option, inl, inr, refl, sym, subst, ◌++◌, Contains-in, Ballot, Upto, upto_splits, total, under_is_upto, quorums_meet, Vote, IsChosenAt, IsChosen, ChosenValuesAgree}
use Rattle.net.proofs.Ledger.{proposal, Ledger, IsSound}
use Rattle.net.proofs.LaterBallots.{later_value}
use Rattle.net.proofs.EveryEvent.{holds_after}
use Rattle.net.proofs.TwoMoments.{stays_chosen}

module _ {V : Type 0} (ws : List ℕ) (offers : List V) (l : Ledger V) (sound : IsSound ws offers l) where
  -- two values chosen at one slot are equal, if the ballot of the first is at most that of the
  -- second
  agree_upto : (b c : Ballot) (s : ℕ) (u v : Option V) → IsChosenAt ws l.votes b s u → IsChosenAt ws l.votes c s v → Upto b c → u ≡ v
  agree_upto b c s u v early late upto =
      let shared = quorums_meet ws early.voters late.voters early.majority late.majority in
      let first = sound.backed _ (Contains-in _ l.votes (early.voted shared.0 shared.1)) in
      let second = sound.backed _ (Contains-in _ l.votes (late.voted shared.0 shared.2)) in
      elim (upto_splits b c upto) [
        | inl under ↦ later_value ws offers l sound (proposal c s v) second b u early under
        | inr same ↦ sound.one_value (proposal b s u) (proposal c s v) first second (same, refl)
      ]

  -- two values chosen at one slot are equal, whichever ballot is higher
  pub chosen_once : (s : ℕ) (u v : Option V) → IsChosen ws l.votes s u → IsChosen ws l.votes s v → u ≡ v
  chosen_once s u v c d = elim (total c.ballot d.ballot) [
    | inl under ↦ agree_upto c.ballot d.ballot s u v c.chosen d.chosen (under_is_upto _ _ under)
    | inr upto ↦ sym (agree_upto d.ballot c.ballot s v u d.chosen c.chosen upto)
  ]

-- values chosen at one slot at two moments are equal
pub chosen_values_agree : {V : Type 0} → ChosenValuesAgree V
chosen_values_agree {V} size ws limit early late w x first then s u v c d =
    let h = holds_after size ws limit (early ++ late) x then in
    let told = λ (y : Option V) (e : IsChosen x.weights x.votes_cast s y). subst (λ (votes : List (Vote V)). IsChosen x.weights votes s y) (sym h.votes_cast) e in
    chosen_once x.weights _ h.ledger h.sound s u v (told u (stays_chosen size ws limit early late w x first then s u c)) (told v d)
