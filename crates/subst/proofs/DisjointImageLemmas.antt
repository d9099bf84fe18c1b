-- The disjoint variable condition by the lists of the variables of images.
use Rattle.frame.specs.ListsOfPairs.{is_numbered_pair}
use Rattle.frame.specs.MandatoryPairs.{has_number as is_met}
use Rattle.subst.proofs.Members.{has_number, met-has}
use Rattle.subst.proofs.VariableListLemmas.{below-from, below-has, others-each, variables-each}
use Rattle.subst.proofs.Words.{◌≡◌, ℕ, suc, ◌<◌, ◌==◌, ◌||◌, ◌&&◌, Bool, true, false, not, true≢false, List, [], ◌∷◌, length, get_or, refl, list_all, list_any, sym, ◌∙◌, ap, arith, inl, inr, cases_Bool, cases_eq, and_from, and_parts, or_left, or_right, or_cases, not_from_false, not-true, both_ways, true_from_ne_false, false_from_ne_true, last_part, list_all-map, list_all_at, list_any_at, Any-from_list_any, below-at, get_or_default, subst, decode, are_disjoint, Numbered, CodeImages, code_image, AreBelow, AreOver, are_two_disjoint, image_named, is_number_disjoint, image_variables, other_variables, compared_variables, listed_beside, numbered_variables, IsRowOf, StampedSymbols, has_symbol, is_numbered_variable}
use Rattle.std.proofs.lemmas.Bool.{ne_eqb}

-- ---- members of a list

pub all-at : (p : ℕ → Bool) (xs : List ℕ) → ((k : ℕ) → k < length xs → p (get_or xs k 0) ≡ true) → list_all p xs ≡ true
all-at p [] h = refl
all-at p (x ∷ xs) h = and_from (p x) (list_all p xs) (h 0 (omega arith)) (all-at p xs (λ k l. h (suc k) (omega (arith, l))))

pub at-all : (p : ℕ → Bool) (xs : List ℕ) (k : ℕ) → list_all p xs ≡ true → k < length xs → p (get_or xs k 0) ≡ true
at-all p xs k h l = true_from_ne_false (p (get_or xs k 0)) (λ e. both_ways (list_all p xs) (list_all_at p xs k 0 l e) h)

pub all-each : (p : ℕ → Bool) (xs : List ℕ) → ((u : ℕ) → has_number xs u ≡ true → p u ≡ true) → list_all p xs ≡ true
all-each p xs h = all-at p xs (λ k l. h (get_or xs k 0) (list_any_at (λ c. get_or xs k 0 == c) xs k 0 l (own (get_or xs k 0))))
  where
    own : (j : ℕ) → (j == j) ≡ true
    own j = grind arith

pub each-all : (p : ℕ → Bool) (xs : List ℕ) (u : ℕ) → list_all p xs ≡ true → has_number xs u ≡ true → p u ≡ true
each-all p [] u all has = absurd (true≢false (sym has))
each-all p (x ∷ xs) u all has = elim (cases_eq u x) [
  | inl same ↦ ap p same ∙ (and_parts (p x) (list_all p xs) all).0
  | inr other ↦ each-all p xs u (and_parts (p x) (list_all p xs) all).1 (ap (λ b. b || has_number xs u) (sym (ne_eqb u x other)) ∙ has)
]

-- the number at an index of a list is in the list
pub has-at : (xs : List ℕ) (k : ℕ) → k < length xs → is_met xs (get_or xs k 0) ≡ true
has-at xs k low = list_any_at (λ c. c == get_or xs k 0) xs k 0 low (let own : (get_or xs k 0 == get_or xs k 0) ≡ true = grind arith in own)

-- ---- two images

abbrev pub is_good : Numbered → ℕ → ℕ → Bool
is_good v x y = not (is_numbered_variable v x) || not (is_numbered_variable v y) || is_numbered_pair v x y

module _ (v : Numbered) (xs ys : List ℕ) where
  -- two images are disjoint exactly if each symbol of the one is good with each of the other
  good_rows : are_disjoint v.statements (decode v.names xs) (decode v.names ys) ≡ list_all (λ x. list_all (is_good v x) ys) xs
  good_rows = simp list_all-map

  pub disjoint-from_good : ((x y : ℕ) → has_number xs x ≡ true → has_number ys y ≡ true → is_good v x y ≡ true) → are_disjoint v.statements (decode v.names xs) (decode v.names ys) ≡ true
  disjoint-from_good good = good_rows ∙ all-each (λ x. list_all (is_good v x) ys) xs (λ x p. all-each (is_good v x) ys (λ y q. good x y p q))

  pub good-each : are_disjoint v.statements (decode v.names xs) (decode v.names ys) ≡ true → (x y : ℕ) → has_number xs x ≡ true → has_number ys y ≡ true → is_good v x y ≡ true
  good-each all x y p q = each-all (is_good v x) ys y (each-all (λ x. list_all (is_good v x) ys) xs x (sym good_rows ∙ all) p) q

-- ---- one image and those of others

module _ (v : Numbered) (σ : CodeImages) (x : ℕ) (numbers : List ℕ) where
  abbrev own : List ℕ
  own = image_variables v σ x

  abbrev others : List ℕ
  others = other_variables v σ x numbers

  abbrev is_from : ℕ → ℕ → Bool
  is_from w y = not (x == y) && has_number (code_image σ y) w

  abbrev image_of : ℕ → List (List ℕ)
  image_of y = image_named v.names σ y

  all-pairs : list_all (λ u. list_all (is_numbered_pair v u) others) own ≡ true → is_number_disjoint v.statements (image_named v.names σ) numbers x ≡ true
  all-pairs told = all-at (are_two_disjoint v.statements (image_named v.names σ) x) numbers (λ k low. elim (cases_Bool (x == get_or numbers k 0)) [
    | inl same ↦ or_left (x == get_or numbers k 0) _ same
    | inr other ↦ or_right (x == get_or numbers k 0) _ (disjoint-from_good v (code_image σ x) (code_image σ (get_or numbers k 0)) (λ a b p q. good k low other a b p q (is_numbered_variable v a) (is_numbered_variable v b) refl refl))
  ])
    where
      good : (k : ℕ) → k < length numbers → (x == get_or numbers k 0) ≡ false → (a b : ℕ) → has_number (code_image σ x) a ≡ true → has_number (code_image σ (get_or numbers k 0)) b ≡ true
          → (t s : Bool) → is_numbered_variable v a ≡ t → is_numbered_variable v b ≡ s → is_good v a b ≡ true
      good k low other a b p q false s none _ = or_left _ _ (or_left _ _ (ap not none))
      good k low other a b p q true false _ none = or_left _ _ (or_right _ _ (ap not none))
      good k low other a b p q true true one two =
          or_right _ _ (each-all (is_numbered_pair v a) others b
          (each-all (λ u. list_all (is_numbered_pair v u) others) own a told (variables-each v (code_image σ x) a ∙ and_from _ _ p one))
          (others-each v σ x numbers b ∙ and_from _ _ (list_any_at (is_from b) numbers k 0 low (and_from _ _ (not_from_false _ other) q)) two))

  pairs-all : is_number_disjoint v.statements (image_named v.names σ) numbers x ≡ true → list_all (λ u. list_all (is_numbered_pair v u) others) own ≡ true
  pairs-all all = all-each (λ u. list_all (is_numbered_pair v u) others) own (λ a p. all-each (is_numbered_pair v a) others (λ b q. pair a b p q))
    where
      pair : (a b : ℕ) → has_number own a ≡ true → has_number others b ≡ true → is_numbered_pair v a b ≡ true
      pair a b p q =
          let one = and_parts _ _ (sym (variables-each v (code_image σ x) a) ∙ p) in
          let two = and_parts _ _ (sym (others-each v σ x numbers b) ∙ q) in
          let h = Any-from_list_any (is_from b) numbers two.0 in
          let from = and_parts _ _ h.4 in
          let at = get_or_default numbers h.0 0 h.1 h.2 ∙ h.3 in
          let disjoint : are_disjoint v.statements (image_of x) (image_of h.1) ≡ true = elim (or_cases (x == h.1) _ (ap (are_two_disjoint v.statements (image_named v.names σ) x) (sym at) ∙ at-all (are_two_disjoint v.statements (image_named v.names σ) x) numbers h.0 all h.2)) [
            | inl same ↦ absurd (true≢false (sym same ∙ not-true _ from.0))
            | inr apart ↦ apart
          ] in
          last_part _ _ _ one.1 two.1 (good-each v (code_image σ x) (code_image σ h.1) disjoint a b one.0 from.1)

  -- the image of x is disjoint from those of the others exactly if each two of the listed variables
  -- are a pair
  pub pairs-tell : list_all (λ u. list_all (is_numbered_pair v u) others) own ≡ is_number_disjoint v.statements (image_named v.names σ) numbers x
  pairs-tell = elim (cases_Bool (list_all (λ u. list_all (is_numbered_pair v u) others) own)) [
    | inl told ↦ told ∙ sym (all-pairs told)
    | inr told ↦ told ∙ sym (false_from_ne_true _ (λ all. true≢false (sym (pairs-all all) ∙ told)))
  ]

-- the variables of the images of the others are below the bound of the numbers
pub others-below : (v : Numbered) (σ : CodeImages) (x : ℕ) (numbers : List ℕ) → AreOver v.names σ → AreBelow (length v.names) numbers → AreBelow (length v.names) (other_variables v σ x numbers)
others-below v σ x numbers over below = below-from (length v.names) (other_variables v σ x numbers) (λ w h.
    let two = and_parts _ _ (sym (others-each v σ x numbers w) ∙ h) in
    let any = Any-from_list_any (λ y. not (x == y) && has_number (code_image σ y) w) numbers two.0 in
    let from = and_parts _ _ any.4 in
    let at = get_or_default numbers any.0 0 any.1 any.2 ∙ any.3 in
    below-has (length v.names) (code_image σ any.1) w (over any.1 (subst (λ y. y < length v.names) at (below-at (length v.names) numbers any.0 0 below any.2))) from.1)

-- ---- members of the lists that are compared

-- a variable of an image stands in it
pub own-parts : (v : Numbered) (symbols : List ℕ) (u : ℕ) → is_met (numbered_variables v symbols) u ≡ true → (is_met symbols u ≡ true) × (is_numbered_variable v u ≡ true)
own-parts v symbols u h =
    let both = and_parts _ _ (sym (variables-each v symbols u) ∙ (sym (met-has (numbered_variables v symbols) u) ∙ h)) in
    (met-has symbols u ∙ both.0, both.1)

any-met : (x w : ℕ) (σ : CodeImages) (numbers : List ℕ) → list_any (λ y. not (x == y) && is_met (code_image σ y) w) numbers ≡ list_any (λ y. not (x == y) && has_number (code_image σ y) w) numbers
any-met x w σ [] = refl
any-met x w σ (y ∷ numbers) =
    ap (λ b. (not (x == y) && b) || list_any (λ y. not (x == y) && is_met (code_image σ y) w) numbers) (met-has (code_image σ y) w)
    ∙ ap (λ b. (not (x == y) && has_number (code_image σ y) w) || b) (any-met x w σ numbers)

beside-met : (own more : List ℕ) (w : ℕ) → is_met (listed_beside own more) w ≡ true → is_met more w ≡ true
beside-met [] more w h = absurd (true≢false (sym h))
beside-met (u ∷ mine) more w h = h

-- a variable with which those of the image of x are compared stands in the image of another number
pub other-parts : (v : Numbered) (σ : CodeImages) (x : ℕ) (numbers : List ℕ) (w : ℕ) → is_met (compared_variables v σ x numbers) w ≡ true
    → (list_any (λ y. not (x == y) && is_met (code_image σ y) w) numbers ≡ true) × (is_numbered_variable v w ≡ true)
other-parts v σ x numbers w h =
    let more = beside-met (image_variables v σ x) (other_variables v σ x numbers) w h in
    let both = and_parts _ _ (sym (others-each v σ x numbers w) ∙ (sym (met-has (other_variables v σ x numbers) w) ∙ more)) in
    (any-met x w σ numbers ∙ both.0, both.1)

-- ---- the row of a variable

-- the symbols in the set and in the lists that are left are those of all lists
pub record IsRead (lists rest : List (List ℕ)) (row : StampedSymbols) : Type 0 where
  pub each : (w : ℕ) → (has_symbol row w || list_any (λ list. has_number list w) rest) ≡ list_any (λ list. has_number list w) lists

-- a row answers for numbers that have names
pub row-tells : (v : Numbered) (u : ℕ) (row : StampedSymbols) (list : List ℕ) → IsRowOf v u row → AreBelow (length v.names) list → list_all (has_symbol row) list ≡ list_all (is_numbered_pair v u) list
row-tells v u row [] is below = refl
row-tells v u row (w ∷ list) is below = ap (λ b. b && list_all (has_symbol row) list) (is.each w below.0) ∙ ap (λ b. is_numbered_pair v u w && b) (row-tells v u row list is below.1)
