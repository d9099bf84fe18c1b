-- Each entry of a log is chosen, since a node learns nothing else. So two logs have the same entry
-- at each slot that both have, and one of them is a prefix of the other.
use Rattle.net.proofs.Words.{◌≡◌, ℕ, ◌+◌, List, ◌++◌, Option, Some, None, refl, subst, slice_get, before_gap, Node, Vote, IsChosen, World, log_at, log, LogEntriesAreChosen, LogsOfNodesAgree}
use Rattle.net.proofs.Beginnings.{agree_lists}
use Rattle.net.proofs.Ledger.{Ledger}
use Rattle.net.proofs.Invariant.{NodeHolds, WorldHolds}
use Rattle.net.proofs.EveryEvent.{node_at, holds_after}
use Rattle.net.proofs.ChosenAgree.{chosen_values_agree}

-- if the invariant holds of a node, if it exists, each entry of its log is chosen
log_at_chosen : {V : Type 0} (ws : List ℕ) (offers : List V) (l : Ledger V) (k : ℕ) (o : Option (Node V)) → ((n : Node V) → o ≡ Some n → NodeHolds ws offers l k n)
    → (s : ℕ) (v : Option V) → slice_get (log_at o) s ≡ Some v → IsChosen ws l.votes s v
log_at_chosen ws offers l k None h s v e = cc
log_at_chosen ws offers l k (Some n) h s v e = (h n refl).learner.chosen s v (before_gap n.learned s v e)

-- each entry of the log of node k is chosen by the votes of the ledger
pub log_chosen : {V : Type 0} (offers : List V) (w : World V) (h : WorldHolds offers w) (k s : ℕ) (v : Option V) → slice_get (log w k) s ≡ Some v → IsChosen w.weights h.ledger.votes s v
log_chosen offers w h k s v e = log_at_chosen w.weights offers h.ledger (0 + k) (slice_get w.nodes k) (λ n d. node_at w.weights offers h.ledger w.nodes 0 k n d h.nodes) s v e

-- each entry of a log is chosen by the votes ever cast
pub log_entries_are_chosen : {V : Type 0} → LogEntriesAreChosen V
log_entries_are_chosen {V} size ws limit events w is_after k s v e =
    let h = holds_after size ws limit events w is_after in
    subst (λ (votes : List (Vote V)). IsChosen w.weights votes s v) h.votes_cast (log_chosen _ w h k s v e)

-- the logs of two nodes at two moments agree
pub logs_of_nodes_agree : {V : Type 0} → LogsOfNodesAgree V
logs_of_nodes_agree size ws limit early late w x first then j k = agree_lists (log w j) (log x k) (λ s u v e d.
    chosen_values_agree size ws limit early late w x first then s u v (log_entries_are_chosen size ws limit early w first j s u e) (log_entries_are_chosen size ws limit (early ++ late) x then k s v d))
