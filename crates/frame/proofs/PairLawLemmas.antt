-- The lists of pairs decide whether images are disjoint as the groups do.
use Rattle.frame.proofs.Words.{◌≡◌, Bool, true, false, not, ◌||◌, ◌&&◌, List, [], ◌∷◌, ◌++◌, filter, refl, sym, ◌∙◌, ap, inl, inr, true≢false, and_from, and_parts, and_comm, or_left, or_right, or_cases, list_all, list_any, all-has, same_name, name_same, Name, name_eq, has_name, has_name-append, Database, Expr, is_variable, is_pair, is_mandatory, mandatory_groups, active_disjoint_lists, Images, image, are_disjoint, is_group_disjoint, are_groups_disjoint, are_lists_disjoint, pair_lists, PairListsDecideAsGroups}
use Rattle.std.specs.Cmp.{both_ways}
use Rattle.frame.proofs.GroupsLemmas.{has-filter, groups-pairs}
use Rattle.frame.proofs.ActiveDisjointLemmas.{all-from}

-- ---- lists of names

pub eq-turn : (x y : Name) → name_eq x y ≡ name_eq y x
eq-turn x y = both_ways (name_eq x y) (name_eq y x) (λ e. ap (λ z. name_eq z x) (sym (same_name x y e)) ∙ name_same x) (λ e. ap (λ z. name_eq z y) (sym (same_name y x e)) ∙ name_same y)

any-same : (p q : List Name → Bool) (ls : List (List Name)) → ((l : List Name) → p l ≡ q l) → list_any p ls ≡ list_any q ls
any-same p q [] h = refl
any-same p q (l ∷ ls) h = ap (λ b. b || list_any p ls) (h l) ∙ ap (λ b. q l || b) (any-same p q ls h)

-- ---- pairs and disjoint images have no order

pub pair-turn : (S : Database) (x y : Name) → is_pair S x y ≡ is_pair S y x
pair-turn S x y =
    ap (λ b. not b && list_any (λ names. has_name x names && has_name y names) (active_disjoint_lists S)) (eq-turn x y)
    ∙ ap (λ b. not (name_eq y x) && b) (any-same (λ names. has_name x names && has_name y names) (λ names. has_name y names && has_name x names) (active_disjoint_lists S) (λ names. and_comm (has_name x names) (has_name y names)))

pub pair-none : (S : Database) (x : Name) → is_pair S x x ≡ false
pair-none S x = rw (name_same x) refl

disjoint-turn : (S : Database) (e f : Expr) → are_disjoint S e f ≡ true → are_disjoint S f e ≡ true
disjoint-turn S e f h =
    all-from (λ v. list_all (λ u. not (is_variable S v) || not (is_variable S u) || is_pair S v u) e) f
    (λ v in_f. all-from (λ u. not (is_variable S v) || not (is_variable S u) || is_pair S v u) e
    (λ u in_e. swap (is_variable S u) (is_variable S v) (is_pair S u v) (is_pair S v u) (pair-turn S u v)
    (all-has (λ w. not (is_variable S u) || not (is_variable S w) || is_pair S u w) v f
    (all-has (λ w. list_all (λ z. not (is_variable S w) || not (is_variable S z) || is_pair S w z) f) u e h in_e) in_f)))
  where
    swap : (a b p q : Bool) → p ≡ q → ((not a || not b) || p) ≡ true → ((not b || not a) || q) ≡ true
    swap true true p q e k = sym e ∙ k
    swap true false p q e k = refl
    swap false true p q e k = refl
    swap false false p q e k = refl

module _ (S : Database) (σ : Images) where
  -- the names are equal, or their images are disjoint
  abbrev clear : Name → Name → Bool
  clear x y = name_eq x y || are_disjoint S (image σ x) (image σ y)

  clear-turn : (x y : Name) → clear x y ≡ true → clear y x ≡ true
  clear-turn x y h = elim (or_cases (name_eq x y) (are_disjoint S (image σ x) (image σ y)) h) [
    | inl same ↦ or_left (name_eq y x) _ (eq-turn y x ∙ same)
    | inr apart ↦ or_right (name_eq y x) _ (disjoint-turn S (image σ x) (image σ y) apart)
  ]

  -- ---- the lists

  module _ (p : Name → Name → Bool) (none : (x : Name) → p x x ≡ false) (symmetric : (x y : Name) → p x y ≡ p y x) where
    -- the lists hold if each pair is clear
    lists-from : (before xs : List Name) → ((x y : Name) → has_name x xs ≡ true → has_name y (before ++ xs) ≡ true → p x y ≡ true → clear x y ≡ true) → are_lists_disjoint S σ (pair_lists p before xs) ≡ true
    lists-from before [] h = refl
    lists-from before (z ∷ xs) h =
        and_from (list_all (clear z) (filter (p z) before)) (are_lists_disjoint S σ (pair_lists p (before ++ z ∷ []) xs))
        (all-from (clear z) (filter (p z) before) (λ y k. (
        let q = and_parts (has_name y before) (p z y) (sym (has-filter (p z) y before) ∙ k) in
        h z y (or_left (name_eq z z) (has_name z xs) (name_same z)) (has_name-append y before (z ∷ xs) ∙ or_left (has_name y before) (has_name y (z ∷ xs)) q.0) q.1)))
        (lists-from (before ++ z ∷ []) xs (λ x y k l. h x y (or_right (name_eq x z) (has_name x xs) k)
        (has_name-append y before (z ∷ xs) ∙ shuffle (has_name y before) (name_eq y z) (has_name y xs) (sym (has_name-append y (before ++ z ∷ []) xs ∙ ap (λ b. b || has_name y xs) (has_name-append y before (z ∷ []))) ∙ l))))
      where
        shuffle : (a b c : Bool) → ((a || (b || false)) || c) ≡ true → (a || (b || c)) ≡ true
        shuffle true b c k = refl
        shuffle false true c k = refl
        shuffle false false c k = k

    -- if they hold, each variable is clear from those before it
    earlier : (before xs : List Name) → are_lists_disjoint S σ (pair_lists p before xs) ≡ true → (x y : Name) → has_name x xs ≡ true → has_name y before ≡ true → p x y ≡ true → clear x y ≡ true
    earlier before [] h x y in_xs in_before pair = absurd (true≢false (sym in_xs))
    earlier before (z ∷ xs) h x y in_xs in_before pair =
        let parts = and_parts (list_all (clear z) (filter (p z) before)) (are_lists_disjoint S σ (pair_lists p (before ++ z ∷ []) xs)) h in
        elim (or_cases (name_eq x z) (has_name x xs) in_xs) [
          | inl same ↦
              let e = same_name x z same in
              ap (λ w. clear w y) e ∙ all-has (clear z) y (filter (p z) before) parts.0 (has-filter (p z) y before ∙ and_from (has_name y before) (p z y) in_before (ap (λ w. p w y) (sym e) ∙ pair))
          | inr more ↦ earlier (before ++ z ∷ []) xs parts.1 x y more (has_name-append y before (z ∷ []) ∙ or_left (has_name y before) (has_name y (z ∷ [])) in_before) pair
        ]

    -- if they hold, each pair is clear
    lists-to : (before xs : List Name) → are_lists_disjoint S σ (pair_lists p before xs) ≡ true → (x y : Name) → has_name x xs ≡ true → has_name y xs ≡ true → p x y ≡ true → clear x y ≡ true
    lists-to before [] h x y in_x in_y pair = absurd (true≢false (sym in_x))
    lists-to before (z ∷ xs) h x y in_x in_y pair =
        let parts = and_parts (list_all (clear z) (filter (p z) before)) (are_lists_disjoint S σ (pair_lists p (before ++ z ∷ []) xs)) h in
        elim (or_cases (name_eq x z) (has_name x xs) in_x) [
          | inl one ↦ elim (or_cases (name_eq y z) (has_name y xs) in_y) [
            | inl two ↦ absurd (true≢false (sym pair ∙ ap (p x) (same_name y z two ∙ sym (same_name x z one)) ∙ none x))
            | inr there ↦ clear-turn y x (earlier (before ++ z ∷ []) xs parts.1 y x there (last x (same_name x z one)) (symmetric y x ∙ pair))
          ]
          | inr here ↦ elim (or_cases (name_eq y z) (has_name y xs) in_y) [
            | inl two ↦ earlier (before ++ z ∷ []) xs parts.1 x y here (last y (same_name y z two)) pair
            | inr there ↦ lists-to (before ++ z ∷ []) xs parts.1 x y here there pair
          ]
        ]
      where
        last : (w : Name) → w ≡ z → has_name w (before ++ z ∷ []) ≡ true
        last w e = has_name-append w before (z ∷ []) ∙ or_right (has_name w before) (has_name w (z ∷ [])) (or_left (name_eq w z) false (ap (name_eq w) (sym e) ∙ name_same w))

  -- ---- the groups

  abbrev both : Name → Name → List Name → Bool
  both x y names = has_name x names && has_name y names

  groups-from : (groups : List (List Name)) → ((x y : Name) → list_any (both x y) groups ≡ true → clear x y ≡ true) → are_groups_disjoint S σ groups ≡ true
  groups-from [] h = refl
  groups-from (g ∷ groups) h =
      and_from (is_group_disjoint S σ g) (are_groups_disjoint S σ groups)
      (all-from (λ x. list_all (clear x) g) g (λ x in_x. all-from (clear x) g (λ y in_y. h x y (or_left (both x y g) (list_any (both x y) groups) (and_from (has_name x g) (has_name y g) in_x in_y)))))
      (groups-from groups (λ x y k. h x y (or_right (both x y g) (list_any (both x y) groups) k)))

  groups-to : (groups : List (List Name)) → are_groups_disjoint S σ groups ≡ true → (x y : Name) → list_any (both x y) groups ≡ true → clear x y ≡ true
  groups-to [] h x y k = absurd (true≢false (sym k))
  groups-to (g ∷ groups) h x y k =
      let parts = and_parts (is_group_disjoint S σ g) (are_groups_disjoint S σ groups) h in
      elim (or_cases (both x y g) (list_any (both x y) groups) k) [
        | inl here ↦
            let p = and_parts (has_name x g) (has_name y g) here in
            all-has (clear x) y g (all-has (λ w. list_all (clear w) g) x g parts.0 p.0) p.1
        | inr more ↦ groups-to groups parts.1 x y more
      ]

-- ---- the law

pub lists-groups : PairListsDecideAsGroups
lists-groups A s S σ variables known = both_ways (are_lists_disjoint S σ (pair_lists (is_pair A) [] variables)) (are_groups_disjoint S σ (mandatory_groups A s)) there back
  where
    there : are_lists_disjoint S σ (pair_lists (is_pair A) [] variables) ≡ true → are_groups_disjoint S σ (mandatory_groups A s) ≡ true
    there h = groups-from S σ (mandatory_groups A s) (λ x y k. by x y k (name_eq x y) refl)
      where
        by : (x y : Name) → list_any (both S σ x y) (mandatory_groups A s) ≡ true → (b : Bool) → name_eq x y ≡ b → clear S σ x y ≡ true
        by x y k true e = or_left (name_eq x y) _ e
        by x y k false e =
            let pair = sym (groups-pairs A s x y) ∙ and_from (not (name_eq x y)) (list_any (both S σ x y) (mandatory_groups A s)) (ap not e) k in
            let two = and_parts (is_pair A x y && is_mandatory A s x) (is_mandatory A s y) pair in
            let one = and_parts (is_pair A x y) (is_mandatory A s x) two.0 in
            lists-to S σ (is_pair A) (pair-none A) (pair-turn A) [] variables h x y (known x ∙ one.1) (known y ∙ two.1) one.0

    back : are_groups_disjoint S σ (mandatory_groups A s) ≡ true → are_lists_disjoint S σ (pair_lists (is_pair A) [] variables) ≡ true
    back h = lists-from S σ (is_pair A) (pair-none A) (pair-turn A) [] variables (λ x y in_x in_y pair. (
        let together = groups-pairs A s x y ∙ and_from (is_pair A x y && is_mandatory A s x) (is_mandatory A s y) (and_from (is_pair A x y) (is_mandatory A s x) pair (sym (known x) ∙ in_x)) (sym (known y) ∙ in_y) in
        groups-to S σ (mandatory_groups A s) h x y (and_parts (not (name_eq x y)) (list_any (both S σ x y) (mandatory_groups A s)) together).1))
