-- The weights of the nodes, and quorums: sets of nodes with more than half of the total weight.
-- Source: Lamport, Paxos Made Simple, 2.2, where a majority of the acceptors is such a set.
-- The code stores an array of nine and a count. Here a set of nodes is a predicate on their
-- numbers.
use Rattle.std.specs.Prelude.{ℕ, suc, ◌+◌, ◌*◌, ◌≤◌, Bool, true, nat_lt, List, [], ◌∷◌, length, if◌then◌else◌, All}
use Rattle.synod.specs.Words.{MAX_NODES, MAX_WEIGHT}

-- 1 to 9 nodes, each of a weight from 1 to 100
pub record IsWeights (weights : List ℕ) : Type 0 where
  pub some : 1 ≤ length weights
  pub few : length weights ≤ MAX_NODES
  pub each : All (λ w. (1 ≤ w) × (w ≤ MAX_WEIGHT)) weights

-- the weight of the nodes in a set; the weights are those of the nodes from 0 on
abbrev pub weigh : (ℕ → Bool) → List ℕ → ℕ
weigh is_in [] = 0
weigh is_in (w ∷ ws) = (if is_in 0 then w else 0) + weigh (λ k. is_in (suc k)) ws

-- whether the nodes in a set are a quorum
abbrev pub is_quorum : List ℕ → (ℕ → Bool) → Bool
is_quorum weights is_in = nat_lt (weigh (λ k. true) weights) (2 * weigh is_in weights)
