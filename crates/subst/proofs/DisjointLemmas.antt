-- The test of the disjoint variable condition succeeds exactly if both conditions on the images of
-- disjoint variables hold.
use Rattle.subst.proofs.Words.{◌≡◌, Bool, true, false, not, ◌&&◌, ◌||◌, List, [], ◌∷◌, refl, list_all, list_any, sym, ◌∙◌, ap, true≢false, inl, inr, and_parts, and_from, not-true, or_left, or_right, or_cases, cases_Bool, not_from_false, false_from_ne_true, Name, name_eq, has_name, Expr, Database, is_variable, name_same, same_name, active_disjoint_lists, is_pair, together, Images, image, are_disjoint, is_group_disjoint, are_groups_disjoint, all-from, pair_at, disjoint-from, DisjointConditionLaw, AreImagesDisjoint, all-has}

-- ---- two images

module _ (S : Database) where
  pub disjoint-keeps : (e f : Expr) → are_disjoint S e f ≡ true → AreImagesDisjoint S e f
  disjoint-keeps e f h = record {
    none_shared = λ u p in_e in_f. same_clash u (list_any (λ names. has_name u names && has_name u names) (active_disjoint_lists S)) (pair_at S e f h u u p p in_e in_f);
    each_listed = λ u v p q in_e in_f.
        (and_parts (not (name_eq u v)) (list_any (λ names. has_name u names && has_name v names) (active_disjoint_lists S)) (pair_at S e f h u v p q in_e in_f)).1;
  }
    where
      same_clash : (u : Name) (b : Bool) → (not (name_eq u u) && b) ≡ true → ⊥
      same_clash u b h = true≢false (sym h ∙ ap (λ t. not t && b) (name_same u))

  pub keeps-disjoint : (e f : Expr) → AreImagesDisjoint S e f → are_disjoint S e f ≡ true
  keeps-disjoint e f k = disjoint-from S e f pair
    where
      pair : (u v : Name) → is_variable S u ≡ true → is_variable S v ≡ true → has_name u e ≡ true → has_name v f ≡ true → is_pair S u v ≡ true
      pair u v p q in_e in_f =
          and_from (not (name_eq u v)) (list_any (λ names. has_name u names && has_name v names) (active_disjoint_lists S)) (not_from_false (name_eq u v) (false_from_ne_true (name_eq u v) same)) (k.each_listed u v p q in_e in_f)
        where
          same : name_eq u v ≡ true → ⊥
          same is = k.none_shared u p in_e (ap (λ w. has_name w f) (same_name u v is) ∙ in_f)

  -- a constant alone has no variable
  no_variable : (x u : Name) → is_variable S x ≡ false → is_variable S u ≡ true → has_name u (x ∷ []) ≡ true → ⊥
  no_variable x u none var in_x = by (name_eq u x) refl in_x
    where
      by : (b : Bool) → name_eq u x ≡ b → (b || false) ≡ true → ⊥
      by true same h = true≢false (sym var ∙ (ap (is_variable S) (same_name u x same) ∙ none))
      by false same h = cc

  -- an image that is a constant is disjoint from each image
  pub constant_left : (x : Name) (f : Expr) → is_variable S x ≡ false → are_disjoint S (x ∷ []) f ≡ true
  constant_left x f none = disjoint-from S (x ∷ []) f (λ u v p q in_e in_f. absurd (no_variable x u none p in_e))

  -- each image is disjoint from one that is a constant
  pub constant_right : (e : Expr) (y : Name) → is_variable S y ≡ false → are_disjoint S e (y ∷ []) ≡ true
  constant_right e y none = disjoint-from S e (y ∷ []) (λ u v p q in_e in_f. absurd (no_variable y v none q in_f))

-- ---- all lists

abbrev both : Name → Name → List Name → Bool
both x y names = has_name x names && has_name y names

module _ (S : Database) (σ : Images) where
  abbrev is_clear : Name → Name → Bool
  is_clear x y = name_eq x y || are_disjoint S (image σ x) (image σ y)

  group-disjoint : (lists : List (List Name)) (x y : Name) → are_groups_disjoint S σ lists ≡ true
      → list_any (λ names. has_name x names && has_name y names) lists ≡ true → name_eq x y ≡ false → are_disjoint S (image σ x) (image σ y) ≡ true
  group-disjoint [] x y h any ne = cc
  group-disjoint (names ∷ lists) x y h any ne =
      let clear = and_parts (is_group_disjoint S σ names) (list_all (is_group_disjoint S σ) lists) h in
      elim (or_cases (both x y names) (list_any (both x y) lists) any) [
        | inl here ↦
            let k = and_parts (has_name x names) (has_name y names) here in
            rw ne at (all-has (is_clear x) y names (all-has (λ w. list_all (is_clear w) names) x names clear.0 k.0) k.1)
        | inr more ↦ group-disjoint lists x y clear.1 more ne
      ]

  groups-from : (lists : List (List Name)) → ((x y : Name) → together lists x y ≡ true → are_disjoint S (image σ x) (image σ y) ≡ true)
      → are_groups_disjoint S σ lists ≡ true
  groups-from [] k = refl
  groups-from (names ∷ lists) k =
      and_from (is_group_disjoint S σ names) (list_all (is_group_disjoint S σ) lists)
      (all-from (λ x. list_all (is_clear x) names) names (λ x in_x. all-from (is_clear x) names (λ y in_y. elim (cases_Bool (name_eq x y)) [
        | inl e ↦ rw e refl
        | inr e ↦ rw e (k x y (and_from (not (name_eq x y)) (both x y names || list_any (both x y) lists) (ap not e)
            (or_left (both x y names) (list_any (both x y) lists) (and_from (has_name x names) (has_name y names) in_x in_y))))
      ])))
      (groups-from lists (λ x y t. let p = and_parts (not (name_eq x y)) (list_any (both x y) lists) t in
      k x y (and_from (not (name_eq x y)) (both x y names || list_any (both x y) lists) p.0 (or_right (both x y names) (list_any (both x y) lists) p.1))))

-- the test succeeds exactly if the images of any two disjoint variables meet both conditions
pub disjoint_condition_law : DisjointConditionLaw
disjoint_condition_law S σ lists = (
  λ h x y t.
      let p = and_parts (not (name_eq x y)) (list_any (λ names. has_name x names && has_name y names) lists) t in
      disjoint-keeps S (image σ x) (image σ y) (group-disjoint S σ lists x y h p.1 (not-true (name_eq x y) p.0)),
  λ k. groups-from S σ lists (λ x y t. keeps-disjoint S (image σ x) (image σ y) (k x y t)),
)
