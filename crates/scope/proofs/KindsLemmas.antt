-- Names and their kinds, as two lists.
use Rattle.scope.proofs.Words.{◌≡◌, ℕ, zero, suc, ◌<◌, Bool, true, false, ◌||◌, cond, List, [], ◌∷◌, ◌++◌, length, take, Option, Some, None, slice_get, refl, sym, ◌∙◌, ap, arith, or_parts, false_from_ne_true, Name, name_eq, has_name, name_at, declared_names, kind_in, zip_kinds, NameKind, name_same, same_name}

pub names-seen : (names : List Name) (kinds : List NameKind) → length kinds ≡ length names → declared_names (zip_kinds names kinds) ≡ names
names-seen [] kinds h = refl
names-seen (x ∷ names) [] h = absurd (omega (arith, h))
names-seen (x ∷ names) (k ∷ kinds) h = ap (λ r. x ∷ r) (names-seen names kinds (omega (arith, h)))

pub length-seen : (names : List Name) (kinds : List NameKind) → length kinds ≡ length names → length (zip_kinds names kinds) ≡ length names
length-seen [] kinds h = refl
length-seen (x ∷ names) [] h = absurd (omega (arith, h))
length-seen (x ∷ names) (k ∷ kinds) h = ap suc (length-seen names kinds (omega (arith, h)))

-- the kind at the first index of a name is the kind of the name
pub kind-at : (names : List Name) (kinds : List NameKind) (x : Name) (n : ℕ) (k : NameKind) → n < length names → name_at names n ≡ x → ((m : ℕ) → m < n → name_at names m ≡ x → ⊥) → slice_get kinds n ≡ Some k
    → kind_in (zip_kinds names kinds) x ≡ Some k
kind-at [] kinds x n k lt e first h = absurd (omega (arith, lt))
kind-at (y ∷ names) [] x n k lt e first h = cc
kind-at (y ∷ names) (l ∷ kinds) x zero k lt e first h =
    ap (λ b. cond b (Some l) (kind_in (zip_kinds names kinds) x)) (own x y e) ∙ h
  where
    own : (x y : Name) → y ≡ x → name_eq x y ≡ true
    own x y e = ap (name_eq x) e ∙ name_same x
kind-at (y ∷ names) (l ∷ kinds) x (suc n) k lt e first h =
    ap (λ b. cond b (Some l) (kind_in (zip_kinds names kinds) x)) (false_from_ne_true (name_eq x y) same)
    ∙ kind-at names kinds x n k (omega (arith, lt)) e (λ m p. first (suc m) (omega (arith, p))) h
  where
    same : name_eq x y ≡ true → ⊥
    same q = first 0 (omega arith) (sym (same_name x y q))

pub kind-none : (names : List Name) (kinds : List NameKind) (x : Name) → has_name x names ≡ false → kind_in (zip_kinds names kinds) x ≡ None
kind-none [] kinds x h = refl
kind-none (y ∷ names) [] x h = refl
kind-none (y ∷ names) (l ∷ kinds) x h =
    let p = or_parts (name_eq x y) (has_name x names) h in
    ap (λ b. cond b (Some l) (kind_in (zip_kinds names kinds) x)) p.0 ∙ kind-none names kinds x p.1

-- if a choice between `Some` and a rest is `None`, the test fails and the rest is `None`
pub none-cond : {A : Type 0} (b : Bool) (x : A) (r : Option A) → cond b (Some x) r ≡ None → (b ≡ false) × (r ≡ None)
none-cond true x r h = cc
none-cond false x r h = (refl, h)

-- a name without a kind is not among the names
pub none-kind : (names : List Name) (kinds : List NameKind) (x : Name) → length kinds ≡ length names → kind_in (zip_kinds names kinds) x ≡ None → has_name x names ≡ false
none-kind [] kinds x l h = refl
none-kind (y ∷ names) [] x l h = absurd (omega (arith, l))
none-kind (y ∷ names) (k ∷ kinds) x l h =
    let p = none-cond (name_eq x y) k (kind_in (zip_kinds names kinds) x) h in
    ap (λ b. b || has_name x names) p.0 ∙ none-kind names kinds x (omega (arith, l)) p.1

pub their-push : (names : List Name) (kinds : List NameKind) (x : Name) (k : NameKind) → length kinds ≡ length names → zip_kinds (names ++ x ∷ []) (kinds ++ k ∷ []) ≡ zip_kinds names kinds ++ (x, k) ∷ []
their-push [] [] x k h = refl
their-push [] (l ∷ kinds) x k h = absurd (omega (arith, h))
their-push (y ∷ names) [] x k h = absurd (omega (arith, h))
their-push (y ∷ names) (l ∷ kinds) x k h = ap (λ r. (y, l) ∷ r) (their-push names kinds x k (omega (arith, h)))

pub their-take : (n : ℕ) (names : List Name) (kinds : List NameKind) → length kinds ≡ length names → zip_kinds (take n names) (take n kinds) ≡ take n (zip_kinds names kinds)
their-take zero [] [] h = refl
their-take (suc n) [] [] h = refl
their-take n [] (l ∷ kinds) h = absurd (omega (arith, h))
their-take n (y ∷ names) [] h = absurd (omega (arith, h))
their-take zero (y ∷ names) (l ∷ kinds) h = refl
their-take (suc n) (y ∷ names) (l ∷ kinds) h = ap (λ r. (y, l) ∷ r) (their-take n names kinds (omega (arith, h)))
