-- Laws of substitution and of disjoint images.
-- Source: Metamath, 4.1 (substitution, and the two conditions on the images of disjoint variables).
-- The code substitutes over numbers, and has one test for both conditions: each two variables, one
-- from each image, are a pair.
use Rattle.std.specs.Prelude.{◌≡◌, ℕ, ◌↔◌, ◌&&◌, List, IsTrue}
use Rattle.subst.specs.Words.{list_any, Name, has_name, Expr, Database, is_variable, decode, AreCodes, AreDistinct, active_disjoint_lists, together, CodeImages, Images, image, apply, code_apply, images_of_names, are_groups_disjoint}

-- if no two numbers stand for one name, to substitute and then read the names is to read the names
-- and then substitute
abbrev pub SubstitutionOverNames : Type 0
SubstitutionOverNames =
    (names : List Name) (σ : CodeImages) (e : List ℕ) → AreDistinct names → AreCodes names e
    → decode names (code_apply σ e) ≡ apply (images_of_names names σ) (decode names e)

-- the two conditions on two images: no variable is in both,
-- and each pair of variables, one from each, is in an active `$d`
pub record AreImagesDisjoint (S : Database) (e f : Expr) : Type 0 where
  pub none_shared : (u : Name) → IsTrue (is_variable S u) → IsTrue (has_name u e) → IsTrue (has_name u f) → ⊥
  pub each_listed :
      (u v : Name) → IsTrue (is_variable S u) → IsTrue (is_variable S v) → IsTrue (has_name u e) → IsTrue (has_name v f)
      → IsTrue (list_any (λ names. has_name u names && has_name v names) (active_disjoint_lists S))

-- the test of a citation succeeds if and only if the images of each pair of variables in one of its
-- lists meet both conditions
abbrev pub DisjointConditionLaw : Type 0
DisjointConditionLaw =
    (S : Database) (σ : Images) (lists : List (List Name)) → IsTrue (are_groups_disjoint S σ lists)
    ↔ ((x y : Name) → IsTrue (together lists x y) → AreImagesDisjoint S (image σ x) (image σ y))
