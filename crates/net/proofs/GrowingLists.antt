-- Lists: facts of each element, like elements with equal answers, and lists that grow.
use Rattle.net.proofs.Words.{◌≡◌, ◌≢◌, ℕ, zero, suc, List, [], ◌∷◌, ◌++◌, set, Some, slice_get, ◌⊎◌, inl, inr, refl, ap, sym, ◌∙◌, subst, AllByRecursion, In}

-- Facts of each element.

-- if P implies Q and P holds of each element of a list, Q holds of each
pub all_more : {A : Type 0} (P Q : A → Type 0) (xs : List A) → ((x : A) → P x → Q x) → AllByRecursion P xs → AllByRecursion Q xs
all_more P Q [] more h = tt
all_more P Q (x ∷ xs) more h = (more x h.0, all_more P Q xs more h.1)

-- if P holds of each element and x is in the list, P holds of x
pub all_in : {A : Type 0} (P : A → Type 0) (xs : List A) (x : A) → In x xs → AllByRecursion P xs → P x
all_in P [] x i h = elim i [ ]
all_in P (y ∷ ys) x (inl e) h = subst P e h.0
all_in P (y ∷ ys) x (inr i) h = all_in P ys x i h.1

-- the element at an index is in the list
pub in_slice_get : {A : Type 0} (xs : List A) (i : ℕ) (x : A) → slice_get xs i ≡ Some x → In x xs
in_slice_get [] i x e = cc
in_slice_get (y ∷ ys) zero x e = inl cc
in_slice_get (y ∷ ys) (suc i) x e = inr (in_slice_get ys i x e)

-- Like elements.

-- any two elements of the list that are alike have equal answers
abbrev pub Settles : {A B : Type 0} → (A → A → Type 0) → (A → B) → List A → Type 0
Settles {A} same answer xs = (x y : A) → In x xs → In y xs → same x y → answer x ≡ answer y

-- a list that settles the answers still does with a new element that is like no old one
pub settles_more : {A B : Type 0} (same : A → A → Type 0) (answer : A → B) (new : A) (xs : List A) → ((x y : A) → same x y → same y x)
    → ((y : A) → In y xs → same new y → ⊥) → Settles same answer xs → Settles same answer (new ∷ xs)
settles_more {A} same answer new xs symmetric fresh old x y (inl e) (inl d) like = ap answer (sym e ∙ d)
settles_more {A} same answer new xs symmetric fresh old x y (inl e) (inr j) like = absurd (fresh y j (subst (λ (z : A). same z y) (sym e) like))
settles_more {A} same answer new xs symmetric fresh old x y (inr i) (inl d) like = absurd (fresh x i (subst (λ (z : A). same z x) (sym d) (symmetric x y like)))
settles_more same answer new xs symmetric fresh old x y (inr i) (inr j) like = old x y i j like

-- Lists that grow.

-- each element of xs is in ys, and P holds of each element of ys that is not in xs
pub record Adds {A : Type 0} (P : A → Type 0) (xs ys : List A) : Type 0 where
  pub old : (x : A) → In x xs → In x ys
  pub new : (x : A) → In x ys → In x xs ⊎ P x

-- a list adds nothing to itself
pub adds_none : {A : Type 0} {P : A → Type 0} {xs : List A} → Adds P xs xs
adds_none = record { old = λ x i. i; new = λ x i. inl i }

-- with y put in front, each element is an old one or satisfies P, if y does
one_new : {A : Type 0} (P : A → Type 0) (y : A) (xs : List A) → P y → (x : A) → In x (y ∷ xs) → In x xs ⊎ P x
one_new P y xs p x (inl e) = inr (subst P e p)
one_new P y xs p x (inr i) = inl i

-- a list with y put in front adds y
pub adds_one : {A : Type 0} {P : A → Type 0} {y : A} {xs : List A} → P y → Adds P xs (y ∷ xs)
adds_one {A} {P} {y} {xs} p = record { old = λ x i. inr i; new = one_new P y xs p }

-- from A or P follows B or Q, if from A follows B or Q and from P follows Q
first_new : {A B P Q : Type 0} → A ⊎ P → (A → B ⊎ Q) → (P → Q) → B ⊎ Q
first_new (inl a) f g = f a
first_new (inr p) f g = inr (g p)

-- if ys adds to xs and zs adds to ys, zs adds to xs elements that satisfy what follows from either
-- fact
pub adds_both : {A : Type 0} {P Q R : A → Type 0} {xs ys zs : List A} → ((x : A) → P x → R x) → ((x : A) → Q x → R x) → Adds P xs ys → Adds Q ys zs → Adds R xs zs
adds_both f g a b = record {
  old = λ x i. b.old x (a.old x i);
  new = λ x i. first_new (b.new x i) (λ j. first_new (a.new x j) (λ k. inl k) (f x)) (g x);
}

-- Lists by index.

-- if an index is within the list, an element set there is the one at that index
pub at_set : {A : Type 0} (xs : List A) (k : ℕ) (x y : A) → slice_get xs k ≡ Some y → slice_get (set xs k x) k ≡ Some x
at_set [] k x y e = cc
at_set (z ∷ xs) zero x y e = refl
at_set (z ∷ xs) (suc k) x y e = at_set xs k x y e

-- setting an element leaves those at other indices
pub at_set_other : {A : Type 0} (xs : List A) (k j : ℕ) (x : A) → k ≢ j → slice_get (set xs k x) j ≡ slice_get xs j
at_set_other [] k j x other = refl
at_set_other (z ∷ xs) zero zero x other = absurd (other refl)
at_set_other (z ∷ xs) zero (suc j) x other = refl
at_set_other (z ∷ xs) (suc k) zero x other = refl
at_set_other (z ∷ xs) (suc k) (suc j) x other = at_set_other xs k j x (λ e. other (ap suc e))

-- if two elements are set at one index, the later one remains
pub set_twice : {A : Type 0} (xs : List A) (k : ℕ) (x y : A) → set (set xs k x) k y ≡ set xs k y
set_twice [] k x y = refl
set_twice (z ∷ xs) zero x y = refl
set_twice (z ∷ xs) (suc k) x y = ap (λ zs. z ∷ zs) (set_twice xs k x y)

-- appending to a list leaves each element at its index
pub at_front : {A : Type 0} (xs more : List A) (k : ℕ) (x : A) → slice_get xs k ≡ Some x → slice_get (xs ++ more) k ≡ Some x
at_front [] more k x e = cc
at_front (y ∷ xs) more zero x e = e
at_front (y ∷ xs) more (suc k) x e = at_front xs more k x e
