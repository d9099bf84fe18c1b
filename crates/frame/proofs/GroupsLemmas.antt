-- The groups of a frame have exactly the mandatory pairs.
use Rattle.frame.proofs.Words.{list_any, sym, ◌∙◌, ap, arith, ◌≡◌, Bool, true, false, not, ◌&&◌, ◌||◌, List, [], ◌∷◌, map, filter, refl, and_comm, or-false, and_parts, both_ways, Name, name_eq, has_name, name_same, same_name, active_disjoint_lists, has_two_or_more, is_mandatory, any-filter_same, GroupsHaveMandatoryPairs}

-- a name is in the filtered list exactly if it is in the list and passes
pub has-filter : (m : Name → Bool) (x : Name) (l : List Name) → has_name x (filter m l) ≡ (has_name x l && m x)
has-filter m x l = any-filter_same (name_eq x) m (m x) (λ y e. ap m (sym (same_name x y e))) l ∙ and_comm (m x) (has_name x l)

abbrev both : Name → Name → List Name → Bool
both x y l = has_name x l && has_name y l

-- a list that has two different names has two or more elements
both-separates : (x y : Name) (l : List Name) → name_eq x y ≡ false → both x y l ≡ true → has_two_or_more l ≡ true
both-separates x y [] d h = cc
both-separates x y (z ∷ []) d h =
    let p = and_parts (name_eq x z || false) (name_eq y z || false) h in
    let same = same_name x z (sym (or-false (name_eq x z)) ∙ p.0) ∙ sym (same_name y z (sym (or-false (name_eq y z)) ∙ p.1)) in
    absurd (both_ways (name_eq x y) d (sym (ap (name_eq x) same) ∙ name_same x))
both-separates x y (z ∷ w ∷ l) d h = refl

any-map : (m : Name → Bool) (x y : Name) (ls : List (List Name)) → list_any (both x y) (map (filter m) ls) ≡ (list_any (both x y) ls && m x && m y)
any-map m x y [] = refl
any-map m x y (l ∷ ls) = rw (has-filter m x l, has-filter m y l, any-map m x y ls) (shuffle (has_name x l) (has_name y l) (m x) (m y) (list_any (both x y) ls))
  where
    shuffle : (a b c d r : Bool) → (((a && c) && (b && d)) || ((r && c) && d)) ≡ ((((a && b) || r) && c) && d)
    shuffle a b c d r = grind arith

pub groups-pairs : GroupsHaveMandatoryPairs
groups-pairs S s x y = by (name_eq x y) refl
  where
    m : Name → Bool
    m = is_mandatory S s

    by : (e : Bool) → name_eq x y ≡ e → (not e && list_any (both x y) (filter has_two_or_more (map (filter m) (active_disjoint_lists S)))) ≡ ((not e && list_any (both x y) (active_disjoint_lists S)) && m x && m y)
    by true e = refl
    -- both names can only be in a list of two or more, so the other lists can be dropped
    by false e = any-filter_same (both x y) has_two_or_more true (λ l h. both-separates x y l e h) (map (filter m) (active_disjoint_lists S)) ∙ any-map m x y (active_disjoint_lists S)
