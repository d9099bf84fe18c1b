-- Images that are disjoint by the `$d` active after the statements S.
use Rattle.std.specs.Prelude.{Bool, true, not, ◌||◌, List, [], ◌∷◌}
use Rattle.frame.specs.Words.{list_all, Name, name_eq, Expr, Database, is_variable}
use Rattle.frame.specs.FrameOf.{is_pair}
use Rattle.frame.specs.Substitution.{Images, image}

-- every variable of e and every variable of f are a pair of an active `$d`; so no variable is in
-- both
abbrev pub are_disjoint : Database → Expr → Expr → Bool
are_disjoint S e f =
    list_all (λ u. list_all (λ v. not (is_variable S u) || not (is_variable S v) || is_pair S u v) f) e

-- the images of every two different variables in a list of disjoint variables are disjoint
abbrev pub is_group_disjoint : Database → Images → List Name → Bool
is_group_disjoint S σ names =
    list_all (λ x. list_all (λ y. name_eq x y || are_disjoint S (image σ x) (image σ y)) names) names

-- this holds for each of the lists
abbrev pub are_groups_disjoint : Database → Images → List (List Name) → Bool
are_groups_disjoint S σ groups = list_all (is_group_disjoint S σ) groups

-- the image of the first variable of a list is disjoint from those of the others
abbrev pub is_list_disjoint : Database → Images → List Name → Bool
is_list_disjoint S σ [] = true
is_list_disjoint S σ (x ∷ others) = list_all (λ y. name_eq x y || are_disjoint S (image σ x) (image σ y)) others

-- this holds for each of the lists
abbrev pub are_lists_disjoint : Database → Images → List (List Name) → Bool
are_lists_disjoint S σ lists = list_all (is_list_disjoint S σ) lists

-- ---- by variables; no public clause cites these definitions

-- u and v are not both variables, or they are a pair
abbrev pub is_pair_disjoint : Database → Name → Name → Bool
is_pair_disjoint S u v = not (is_variable S u) || not (is_variable S v) || is_pair S u v

-- u is not a variable, or u and every variable of f are a pair
abbrev pub is_symbol_disjoint : Database → Expr → Name → Bool
is_symbol_disjoint S f u = list_all (is_pair_disjoint S u) f
