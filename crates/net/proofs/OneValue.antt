-- Under one ballot at most one value is proposed for a slot: a ballot is begun once, and its
-- proposer goes from slot to slot.
-- The ledger is sound and has the proposal of each Accept.
use Rattle.net.proofs.Words.{ℕ, List, Option, refl, subst, In, Contains-in, Ballot, World, IsProposed, BallotsHaveOneValue}
use Rattle.net.proofs.GrowingLists.{all_in}
use Rattle.net.proofs.Ledger.{proposal}
use Rattle.net.proofs.Invariant.{SaysTrue, IsTrue, WorldHolds}
use Rattle.net.proofs.EveryEvent.{holds_after}

-- the proposal of an Accept of the world is in the ledger
pub proposed_in : {V : Type 0} (offers : List V) (w : World V) (h : WorldHolds offers w) (b : Ballot) (s : ℕ) (v : Option V) → IsProposed w b s v → In (proposal b s v) h.ledger.proposals
proposed_in offers w h b s v p =
    let said = all_in (IsTrue w.weights h.ledger) w.packets p.0 (Contains-in p.0 w.packets p.1) h.packets in
    subst (λ body. SaysTrue w.weights h.ledger p.0.from body) p.2 said

-- under one ballot at most one value is proposed for a slot
pub ballots_have_one_value : {V : Type 0} → BallotsHaveOneValue V
ballots_have_one_value size ws limit events w is_after b s u v p q =
    let h = holds_after size ws limit events w is_after in
    h.sound.one_value (proposal b s u) (proposal b s v) (proposed_in _ w h b s u p) (proposed_in _ w h b s v q) (refl, refl)
