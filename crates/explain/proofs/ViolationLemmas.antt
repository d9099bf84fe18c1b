-- A violation of the disjoint variable condition, by number and by name.
use Rattle.explain.proofs.Words.{◌≡◌, ℕ, zero, suc, Bool, true, false, not, ◌&&◌, ◌||◌, List, [], ◌∷◌, length, take, map, arith, refl, sym, ◌∙◌, ap, ⊎_elim, Some, slice_get, list_any, or-true, or_cases, or_left, or_right, eqb-true, nat_eq, slice_get-get_or, and_comm, Numbered, Name, name_eq, name_eq-comm, name_same, has_name, Database, name_at, decode, AreDistinct, AllBelow, below-group, same-number, CodeImages, Images, code_image, is_pair, active_disjoint_lists}
use Rattle.explain.specs.DisjointViolations.{IsViolation}
use Rattle.explain.proofs.NamedLemmas.{AreSame}
use Rattle.frame.proofs.PairListLemmas.{each-below}
use Rattle.frame.specs.MandatoryPairs.{has_number}
use Rattle.subst.specs.Violations.{IsViolation as IsNumberedViolation}
use Rattle.subst.specs.declared.violation.DisjointViolation.{DisjointViolation}

-- a number in a list has its name among the names of the list
has_named : (names : List Name) (xs : List ℕ) (u : ℕ) → has_number xs u ≡ true → has_name (name_at names u) (decode names xs) ≡ true
has_named names [] u h = h
has_named names (x ∷ xs) u h = ⊎_elim
    (λ same. ap (λ b. b || has_name (name_at names u) (decode names xs)) (ap (λ z. name_eq (name_at names u) (name_at names z)) (eqb-true x u same) ∙ name_same (name_at names u)))
    (λ rest. ap (λ b. name_eq (name_at names u) (name_at names x) || b) (has_named names xs u rest) ∙ or-true (name_eq (name_at names u) (name_at names x)))
    (or_cases _ _ h)

-- a number among the first ones of a list is in the list
has_front : (i : ℕ) (xs : List ℕ) (u : ℕ) → has_number (take i xs) u ≡ true → has_number xs u ≡ true
has_front zero [] u h = h
has_front zero (x ∷ xs) u h = absurd (cc)
has_front (suc i) [] u h = h
has_front (suc i) (x ∷ xs) u h = ⊎_elim (λ same. or_left _ _ same) (λ rest. or_right _ _ (has_front i xs u rest)) (or_cases _ _ h)

-- the number at an index of a list is in the list
has_at : (xs : List ℕ) (i u : ℕ) → slice_get xs i ≡ Some u → has_number xs u ≡ true
has_at [] i u e = absurd (cc)
has_at (x ∷ xs) zero u e = let same : x ≡ u = cc in or_left _ _ (let is : nat_eq x u ≡ true = grind (arith, same) in is)
has_at (x ∷ xs) (suc i) u e = or_right _ _ (has_at xs i u e)

any-same : {A : Type 0} (p q : A → Bool) (xs : List A) → ((x : A) → p x ≡ q x) → list_any p xs ≡ list_any q xs
any-same p q [] h = refl
any-same p q (x ∷ xs) h = ap (λ b. b || list_any p xs) (h x) ∙ ap (λ b. q x || b) (any-same p q xs h)

-- a pair has no order
pair-swap : (S : Database) (x y : Name) → is_pair S x y ≡ is_pair S y x
pair-swap S x y =
    ap (λ b. not b && list_any (λ names. has_name x names && has_name y names) (active_disjoint_lists S)) (name_eq-comm x y)
    ∙ ap (λ b. not (name_eq y x) && b) (any-same (λ names. has_name x names && has_name y names) (λ names. has_name y names && has_name x names) (active_disjoint_lists S) (λ names. and_comm (has_name x names) (has_name y names)))

-- if one list passes, some list passes
any_group : {A : Type 0} (t : List Name → Bool) (f : A → List Name) (xs : List A) (k : ℕ) (x : A) → slice_get xs k ≡ Some x → t (f x) ≡ true → list_any t (map f xs) ≡ true
any_group t f [] k x e h = cc
any_group t f (y ∷ xs) zero x e h = let same : y ≡ x = cc in ap (λ b. b || list_any t (map f xs)) (ap (λ z. t (f z)) same ∙ h)
any_group t f (y ∷ xs) (suc k) x e h = ap (λ b. t (f y) || b) (any_group t f xs k x e h) ∙ or-true (t (f y))

differ_swap : (a b : ℕ) → nat_eq a b ≡ false → nat_eq b a ≡ false
differ_swap a b h = sym (let same : nat_eq a b ≡ nat_eq b a = grind arith in sym h ∙ same)

-- a violation by number is one by name
pub violation_named : (v : Numbered) (σ : CodeImages) (τ : Images) (groups : List (List ℕ)) (w : DisjointViolation) → AreDistinct v.names → AreSame v.names σ τ → AllBelow (length v.names) groups
    → IsNumberedViolation v σ groups w → IsViolation v.statements v.names τ (map (decode v.names) groups) w
violation_named v σ τ groups w distinct same below h =
    let names = v.names in
    let k = h.0 in
    let group = h.1 in
    let found = h.3.2 in
    let other = found.first in
    let low = below-group (length names) groups k group below h.2 in
    let second_listed : has_number group w.second ≡ true = ap (has_number group) found.second ∙ has_at group h.3.0 _ (slice_get-get_or group h.3.0 0 h.3.1) in
    let first_listed : has_number group w.first ≡ true = has_front h.3.0 group w.first other.listed in
    let second_low = each-below (length names) group w.second low second_listed in
    let first_low = each-below (length names) group w.first low first_listed in
    let x = name_at names w.first in
    let y = name_at names w.second in
    let apart : name_eq x y ≡ false = sym (same-number names w.first w.second distinct first_low second_low) ∙ differ_swap w.second w.first (ap (λ z. nat_eq z w.first) found.second ∙ other.differ) in
    let any = any_group (λ g. has_name x g && has_name y g) (decode names) groups k group h.2 (ap (λ b. b && has_name y (decode names group)) (has_named names group w.first first_listed) ∙ has_named names group w.second second_listed) in
    record {
      together = ap (λ b. not b && list_any (λ g. has_name x g && has_name y g) (map (decode names) groups)) apart ∙ any;
      unpaired = record {
        first = ap (has_name (name_at names w.in_first_image)) (sym (same.each w.first first_low)) ∙ has_named names (code_image σ w.first) w.in_first_image other.stands;
        second = ap (has_name (name_at names w.in_second_image)) (sym (same.each w.second second_low))
            ∙ has_named names (code_image σ w.second) w.in_second_image (ap (λ z. has_number (code_image σ z) w.in_second_image) found.second ∙ found.stands);
        unpaired = record {
          first = other.variable;
          second = found.variable;
          no_pair = pair-swap v.statements (name_at names w.in_first_image) (name_at names w.in_second_image) ∙ other.no_pair;
        };
      };
    }
