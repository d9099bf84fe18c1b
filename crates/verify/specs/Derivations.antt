-- Derivations as data, and the derivation that a `Tree` of the code is: the tree without the
-- addresses of its lists.
use Rattle.std.specs.Prelude.{ℕ, ◌+◌, max, List, [], ◌∷◌}
use Rattle.verify.specs.declared.tree.Tree.{Tree}
use Rattle.verify.specs.declared.tree.Tree.TheOpen.{Tree-F}
use Rattle.verify.specs.declared.tree.Tree.TheOpen as open_tree
use Rattle.verify.specs.declared.tree.Tree.TheFolds.{fold-Tree}

mutual
  -- a hypothesis by its position, or an assertion by its position with a derivation of each of its
  -- mandatory hypotheses
  pub data Derivation : Type 0 where
    hyp : ℕ → Derivation
    apply : ℕ → Derivations → Derivation

  pub data Derivations : Type 0 where
    none : Derivations
    more : Derivation → Derivations → Derivations

-- the derivations of a list
abbrev pub from_list : List Derivation → Derivations
from_list [] = none
from_list (t ∷ ts) = more t (from_list ts)

-- one node, given the derivations of its children
abbrev pub derivation_step : Tree-F Derivation → Derivation
derivation_step (open_tree.Hyp i) = hyp i
derivation_step (open_tree.Apply a children) = apply a (from_list children.items)

-- the derivation that a tree is
abbrev pub derivation_of : Tree → Derivation
derivation_of = fold-Tree Derivation derivation_step

-- the number of nodes, and the depth: a lone node has depth 1
abbrev mutual
  pub node_count : Derivation → ℕ
  node_count (hyp i) = 1
  node_count (apply a children) = 1 + nodes_in children

  pub nodes_in : Derivations → ℕ
  nodes_in none = 0
  nodes_in (more t children) = node_count t + nodes_in children

abbrev mutual
  pub depth : Derivation → ℕ
  depth (hyp i) = 1
  depth (apply a children) = 1 + depth_in children

  pub depth_in : Derivations → ℕ
  depth_in none = 0
  depth_in (more t children) = max (depth t) (depth_in children)
