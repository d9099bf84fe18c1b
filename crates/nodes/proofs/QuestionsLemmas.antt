-- The states of nodes, one by one.
use Rattle.nodes.proofs.Words.{◌≡◌, ℕ, suc, ◌+◌, List, [], ◌∷◌, ◌++◌, length, subst, sym, arith}
use Rattle.nodes.specs.Words.{IsPrefixOf}
use Rattle.nodes.specs.declared.moment.Moment.{Moment}
use Rattle.nodes.specs.Questions.{AreNodeStatuses, IsNodeStatus, WasNodeStatus}
use Rattle.world.specs.declared.health.NodeStatus.{NodeStatus}
use Rattle.nodes.proofs.PrefixLemmas.{prefix_self, prefix_trans}

-- states of moments of a call are of moments of a longer one
pub later_statuses : (old mid new : List Moment) (k : ℕ) (statuses : List NodeStatus) → IsPrefixOf mid new → AreNodeStatuses old mid k statuses → AreNodeStatuses old new k statuses
later_statuses old mid new k [] pre are = tt
later_statuses old mid new k (s ∷ statuses) pre are = (
  record { at = are.0.at; later = are.0.later; earlier = prefix_trans are.0.at mid new are.0.earlier pre; is_status = are.0.is_status },
  later_statuses old mid new (suc k) statuses pre are.1,
)

-- the states of the nodes from node k on, with that of the next node, are the states of nodes
pushed : (old new : List Moment) (k : ℕ) (statuses : List NodeStatus) (status : NodeStatus) → AreNodeStatuses old new k statuses → WasNodeStatus old new (k + length statuses) status → AreNodeStatuses old new k (statuses ++ status ∷ [])
pushed old new k [] status are is = let same : k + 0 ≡ k = omega arith in (subst (λ (j : ℕ). WasNodeStatus old new j status) same is, tt)
pushed old new k (s ∷ statuses) status are is =
    let same : k + suc (length statuses) ≡ suc k + length statuses = omega arith in
    (are.0, pushed old new (suc k) statuses status are.1 (subst (λ (j : ℕ). WasNodeStatus old new j status) same is))

-- this for all nodes up to node k
pub more_statuses : (old mid new : List Moment) (k : ℕ) (before after : List NodeStatus) (status : NodeStatus) → IsPrefixOf old mid → IsPrefixOf mid new → after ≡ before ++ status ∷ [] → length before ≡ k
    → AreNodeStatuses old mid 0 before → IsNodeStatus new k status → AreNodeStatuses old new 0 after
more_statuses old mid new k before after status first pre added count are is =
    let next : k ≡ 0 + length before = omega (arith, count) in
    let now : WasNodeStatus old new k status = record { at = new; later = prefix_trans old mid new first pre; earlier = prefix_self new; is_status = is } in
    subst (λ (xs : List NodeStatus). AreNodeStatuses old new 0 xs) (sym added)
    (pushed old new 0 before status (later_statuses old mid new 0 before pre are) (subst (λ (j : ℕ). WasNodeStatus old new j status) next now))
