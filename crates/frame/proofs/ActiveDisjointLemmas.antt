-- Images are disjoint exactly if any two variables, one from each, are a pair.
use Rattle.frame.proofs.Words.{list_all, sym, ◌∙◌, arith, ◌≡◌, ℕ, ◌+◌, ◌<◌, Bool, true, false, not, ◌||◌, take, List, [], ◌∷◌, zero, suc, length, map, get_or, refl, and_from, or_left, or_right, list_all-map, list_all_more, list_all_at, Name, name_eq, has_name, Expr, Database, is_variable, name_same, all-has, is_pair, are_disjoint, AreBelow, is_pair_disjoint}

-- ---- a test of each element of a list, in a loop

-- if an element fails the test, not all pass
pub stops : {A B : Type 0} (p : B → Bool) (f : A → B) (xs : List A) (i : ℕ) (d : A) → i < length xs → p (f (get_or xs i d)) ≡ false → list_all p (map f xs) ≡ false
stops p f xs i d h e = list_all-map p f xs ∙ list_all_at (λ x. p (f x)) xs i d h e

-- if the first i elements pass and the next passes, the first i + 1 pass
pub goes_on : {A B : Type 0} (p : B → Bool) (f : A → B) (xs : List A) (i : ℕ) (d : A) → i < length xs → list_all p (map f (take i xs)) ≡ true → p (f (get_or xs i d)) ≡ true
    → list_all p (map f (take (i + 1) xs)) ≡ true
goes_on p f xs i d h before here =
    list_all-map p f (take (i + 1) xs) ∙ (list_all_more (λ x. p (f x)) xs i d h
    ∙ and_from (list_all (λ x. p (f x)) (take i xs)) (p (f (get_or xs i d))) (sym (list_all-map p f (take i xs)) ∙ before) here)

pub below-at : (n : ℕ) (xs : List ℕ) (i d : ℕ) → AreBelow n xs → i < length xs → get_or xs i d < n
below-at n [] i d b h = absurd (omega (arith, h))
below-at n (x ∷ xs) zero d b h = b.0
below-at n (x ∷ xs) (suc i) d b h = below-at n xs i d b.1 (omega (arith, h))

-- ---- all names of a list

pub all-from : (p : Name → Bool) (xs : List Name) → ((x : Name) → has_name x xs ≡ true → p x ≡ true) → list_all p xs ≡ true
all-from p [] h = refl
all-from p (y ∷ xs) h =
    and_from (p y) (list_all p xs) (h y (or_left (name_eq y y) (has_name y xs) (name_same y)))
    (all-from p xs (λ x k. h x (or_right (name_eq x y) (has_name x xs) k)))

-- ---- two images

-- if a and b hold, `not a || not b || c` implies c
pub last_part : (a b c : Bool) → a ≡ true → b ≡ true → (not a || not b || c) ≡ true → c ≡ true
last_part a b c p q h = rw (p, q) at h

-- `not a || not b || c` holds if c follows from a and b
from_parts : (a b c : Bool) → (a ≡ true → b ≡ true → c ≡ true) → (not a || not b || c) ≡ true
from_parts true true c f = f refl refl
from_parts true false c f = refl
from_parts false b c f = refl

module _ (S : Database) where
  -- if two images are disjoint, any two variables, one from each, are a pair
  pub pair_at : (e f : Expr) → are_disjoint S e f ≡ true → (u v : Name) → is_variable S u ≡ true → is_variable S v ≡ true
      → has_name u e ≡ true → has_name v f ≡ true → is_pair S u v ≡ true
  pair_at e f h u v p q in_e in_f =
      last_part (is_variable S u) (is_variable S v) (is_pair S u v) p q
      (all-has (is_pair_disjoint S u) v f (all-has (λ w. list_all (is_pair_disjoint S w) f) u e h in_e) in_f)

  -- two images are disjoint if any two variables, one from each, are a pair
  pub disjoint-from : (e f : Expr) → ((u v : Name) → is_variable S u ≡ true → is_variable S v ≡ true → has_name u e ≡ true → has_name v f ≡ true → is_pair S u v ≡ true)
      → are_disjoint S e f ≡ true
  disjoint-from e f k =
      all-from (λ u. list_all (is_pair_disjoint S u) f) e
      (λ u in_e. all-from (is_pair_disjoint S u) f (λ v in_f. from_parts (is_variable S u) (is_variable S v) (is_pair S u v) (λ p q. k u v p q in_e in_f)))
