-- The groups of a frame have exactly the mandatory pairs.
-- Metamath, 4.2.7: the mandatory `$d` of an assertion are pairs of its mandatory variables.
-- The code keeps pairs, as lists of a variable and those before it.
use Rattle.std.specs.Prelude.{◌≡◌, List, []}
use Rattle.frame.specs.Words.{Name, has_name, Stmt, Database}
use Rattle.frame.specs.FrameOf.{together, is_pair, is_mandatory, mandatory_groups, is_mandatory_pair}
use Rattle.frame.specs.Substitution.{Images}
use Rattle.frame.specs.Disjoint.{are_groups_disjoint, are_lists_disjoint}
use Rattle.frame.specs.MandatoryPairs.{pair_lists}

-- two variables are both in one of the groups of a frame exactly if they are a mandatory pair
abbrev pub GroupsHaveMandatoryPairs : Type 0
GroupsHaveMandatoryPairs = (S : Database) (s : Stmt) (x y : Name) → together (mandatory_groups S s) x y ≡ is_mandatory_pair S s x y

-- images are disjoint by the lists of pairs of the mandatory variables, in whatever order these are,
-- exactly if they are disjoint by the groups
abbrev pub PairListsDecideAsGroups : Type 0
PairListsDecideAsGroups = (A : Database) (s : Stmt) (S : Database) (σ : Images) (variables : List Name) → ((x : Name) → has_name x variables ≡ is_mandatory A s x)
    → are_lists_disjoint S σ (pair_lists (is_pair A) [] variables) ≡ are_groups_disjoint S σ (mandatory_groups A s)
