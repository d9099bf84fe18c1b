-- A step of a node preserves the invariant: the ledger with what the node did added is sound and
-- agrees with the node and its packets.
use Rattle.net.proofs.Words.{◌≡◌, ℕ, suc, Bool, true, false, ◌==◌, List, [], ◌∷◌, Option, if◌then◌else◌, AllByRecursion, Packet, Body, Accept, Ballot, packet, to_all_from, to_all, to_others_from, accept_posts, StepResult, votes_after, all_append}
use Rattle.net.proofs.Ledger.{Ledger, IsSound}
use Rattle.net.proofs.LedgerGrows.{Grows, grows_none}
use Rattle.net.proofs.LedgerSteps.{EachProposed}
use Rattle.net.proofs.Invariant.{NodeHolds, SaysTrue, IsTrue}

-- ledger l can grow by what node k did, so that it is sound and agrees with the step's node, posts
-- and votes
pub record Continues {V : Type 0} (ws : List ℕ) (offers : List V) (k : ℕ) (l : Ledger V) (step : StepResult V) : Type 0 where
  pub ledger : Ledger V
  pub grows : Grows k l ledger
  pub sound : IsSound ws offers ledger
  pub node : NodeHolds ws offers ledger k step.node
  pub posts : AllByRecursion (IsTrue ws ledger) step.posts
  pub cast : ledger.votes ≡ votes_after k step.change l.votes

-- a step preserves the invariant with the same ledger, if that agrees with it and the step casts no
-- vote
pub same_ledger : {V : Type 0} {ws : List ℕ} {offers : List V} {k : ℕ} {l : Ledger V} {step : StepResult V} → IsSound ws offers l → NodeHolds ws offers l k step.node
    → AllByRecursion (IsTrue ws l) step.posts → l.votes ≡ votes_after k step.change l.votes → Continues ws offers k l step
same_ledger {k = k} {l = l} sound holds posts none_cast = record { ledger = l; grows = grows_none k l; sound = sound; node = holds; posts = posts; cast = none_cast }

-- If a body is true of its sender, each packet with it is true.

module _ {V : Type 0} (ws : List ℕ) (l : Ledger V) (me : ℕ) (body : Body V) (true_body : SaysTrue ws l me body) where
  -- packets with a true body to all nodes are true
  pub true_to_all : (k : ℕ) (weights : List ℕ) → AllByRecursion (IsTrue ws l) (to_all_from me body k weights)
  true_to_all k [] = tt
  true_to_all k (w ∷ weights) = (true_body, true_to_all (suc k) weights)

  -- true packets remain true with one more of the true body before them, or without
  one_other : (t : Bool) (k : ℕ) (ps : List (Packet V)) → AllByRecursion (IsTrue ws l) ps → AllByRecursion (IsTrue ws l) (if t then ps else (packet me k body ∷ ps))
  one_other true k ps h = h
  one_other false k ps h = (true_body, h)

  -- packets with a true body to all nodes but the sender are true
  pub true_to_others : (k : ℕ) (weights : List ℕ) → AllByRecursion (IsTrue ws l) (to_others_from me body k weights)
  true_to_others k [] = tt
  true_to_others k (w ∷ weights) = one_other (k == me) k (to_others_from me body (suc k) weights) (true_to_others (suc k) weights)

-- Accepts of values that were proposed for consecutive slots are true
pub true_accepts : {V : Type 0} (ws : List ℕ) (l : Ledger V) (me : ℕ) (weights : List ℕ) (b : Ballot) (s : ℕ) (vs : List (Option V)) → EachProposed l.proposals b s vs
    → AllByRecursion (IsTrue ws l) (accept_posts me weights b s vs)
true_accepts ws l me weights b s [] h = tt
true_accepts ws l me weights b s (v ∷ vs) h =
    all_append (IsTrue ws l) (to_all me weights (Accept b s v)) (accept_posts me weights b (suc s) vs) (true_to_all ws l me (Accept b s v) h.0 0 weights) (true_accepts ws l me weights b (suc s) vs h.1)
