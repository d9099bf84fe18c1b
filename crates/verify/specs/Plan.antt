-- The plan of a derivation: numbered nodes, each after its children.
-- In a tree a recalled derivation occurs again; a plan has its nodes once.
-- The code makes a plan first, measures it, and makes the tree if it is small.
use Rattle.std.specs.Prelude.{◌≡◌, ℕ, ◌+◌, List, [], ◌∷◌, ◌++◌, length, map, get_or}
use Rattle.frame.specs.Below.{AreBelow}
use Rattle.verify.specs.declared.plan.Node.{Node}
use Rattle.verify.specs.declared.plan.TreePlan.{TreePlan}
use Rattle.verify.specs.declared.plan.Node.TheVariants.{Hyp, Apply}
use Rattle.verify.specs.Derivations.{Derivation, hyp, apply, from_list}
use Rattle.verify.specs.Growth.{GrowsBy, Trees, trees}
use Rattle.verify.specs.Right.{IsRight}
use Rattle.verify.specs.Walk.{Walk}
use Rattle.verify.specs.Words.{Database, Item}

-- the derivation with this number
abbrev pub pick : List Derivation → ℕ → Derivation
pick ts k = get_or ts k (hyp 0)

-- the derivation of a node, given those of earlier nodes
abbrev pub derive : List Derivation → Node → Derivation
derive ts (Hyp i) = hyp i
derive ts (Apply a children) = apply a (from_list (map (pick ts) children.items))

-- the derivations of nodes, appended to those of earlier nodes
abbrev pub built_from : List Derivation → List Node → List Derivation
built_from ts [] = ts
built_from ts (n ∷ ns) = built_from (ts ++ derive ts n ∷ []) ns

-- the derivations of all nodes
abbrev pub built : List Node → List Derivation
built ns = built_from [] ns

-- the numbers of a node's children are below k
abbrev pub IsAfter : ℕ → Node → Type 0
IsAfter k (Hyp i) = Unit {0}
IsAfter k (Apply a children) = AreBelow k children.items

-- each node is after its children
abbrev pub AreOrdered : ℕ → List Node → Type 0
AreOrdered k [] = Unit {0}
AreOrdered k (n ∷ ns) = IsAfter k n × AreOrdered (k + 1) ns

-- the trees of the numbers on the stack and of those saved
abbrev pub trees_of_numbers : List Node → List ℕ → List ℕ → Trees
trees_of_numbers ns stack saved = trees (map (pick (built ns)) stack) (map (pick (built ns)) saved)

-- the trees of a plan
abbrev pub trees_of : TreePlan → Trees
trees_of p = trees_of_numbers p.nodes.items p.stack.items p.saved.items

-- each node is after its children, and each number has a node
pub record IsPlan (p : TreePlan) : Type 0 where
  pub ordered : AreOrdered 0 p.nodes.items
  pub stack_below : AreBelow (length p.nodes.items) p.stack.items
  pub saved_below : AreBelow (length p.nodes.items) p.saved.items

-- a node is appended, and its number is pushed onto the stack
pub record AddsNode (old new : TreePlan) (node : Node) : Type 0 where
  pub nodes : new.nodes.items ≡ old.nodes.items ++ node ∷ []
  pub stack : new.stack.items ≡ old.stack.items ++ length old.nodes.items ∷ []
  pub saved : new.saved.items ≡ old.saved.items

-- the trees of the plan are those that the items of the walk grow, one for each result
pub record IsPlanOf (w : Walk) (p : TreePlan) : Type 0 where
  pub is_plan : IsPlan p
  pub grown : GrowsBy w.statements w.at (trees [] []) w.items (trees_of p)
  pub stack_count : length p.stack.items ≡ length w.results.stack
  pub saved_count : length p.saved.items ≡ length w.results.saved

-- the items are a right proof, and the plan has the tree that they grow
pub record IsRightPlan (S : Database) (at : ℕ) (items : List Item) (p : TreePlan) : Type 0 where
  pub right : IsRight S at items
  pub is_plan : IsPlan p
  pub grown : GrowsBy S at (trees [] []) items (trees_of p)
