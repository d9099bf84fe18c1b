-- The images of the numbers of a group, each tested against the earlier ones.
use Rattle.subst.proofs.Words.{◌≡◌, ℕ, ◌+◌, ◌<◌, ◌≤◌, Bool, true, false, not, ◌||◌, ◌&&◌, ◌==◌, List, [], ◌∷◌, length, take, get_or, refl, list_any, sym, ◌∙◌, ap, arith, inl, inr, true≢false, cases_eq, or_cases, or_left, or_right, false_from_ne_true, get_or-take, length-take, Name, name_eq, has_name, Expr, Database, name_eq-comm, is_pair, active_disjoint_lists, are_disjoint, are_two_disjoint, is_number_disjoint, are_numbers_disjoint, pair_at, disjoint-from, and_comm}
use Rattle.subst.proofs.DisjointImageLemmas.{at-all, all-at}

any-same : {A : Type 0} (p q : A → Bool) (xs : List A) → ((x : A) → p x ≡ q x) → list_any p xs ≡ list_any q xs
any-same p q [] h = refl
any-same p q (x ∷ xs) h = ap (λ b. b || list_any p xs) (h x) ∙ ap (λ b. q x || b) (any-same p q xs h)

-- ---- the disjoint variable condition is symmetric

pair-swap : (D : Database) (x y : Name) → is_pair D x y ≡ is_pair D y x
pair-swap D x y =
    ap (λ b. not b && list_any (λ names. has_name x names && has_name y names) (active_disjoint_lists D)) (name_eq-comm x y)
    ∙ ap (λ b. not (name_eq y x) && b) (any-same (λ names. has_name x names && has_name y names) (λ names. has_name y names && has_name x names) (active_disjoint_lists D) (λ names. and_comm (has_name x names) (has_name y names)))

disjoint-swap : (D : Database) (e f : Expr) → are_disjoint D e f ≡ true → are_disjoint D f e ≡ true
disjoint-swap D e f h = disjoint-from D f e (λ u v p q in_f in_e. pair-swap D u v ∙ pair_at D e f h v u q p in_e in_f)

eq-swap : (i j : ℕ) → (i == j) ≡ (j == i)
eq-swap i j = grind arith

eq-own : (j : ℕ) → (j == j) ≡ true
eq-own j = grind arith

module _ (D : Database) (image_of : ℕ → Expr) where
  two-swap : (k l : ℕ) → are_two_disjoint D image_of k l ≡ true → are_two_disjoint D image_of l k ≡ true
  two-swap k l h = elim (or_cases (k == l) (are_disjoint D (image_of k) (image_of l)) h) [
    | inl same ↦ or_left (l == k) _ (eq-swap l k ∙ same)
    | inr disjoint ↦ or_right (l == k) _ (disjoint-swap D (image_of k) (image_of l) disjoint)
  ]

-- ---- each image is tested against the earlier ones

module _ (D : Database) (image_of : ℕ → Expr) (group : List ℕ) where
  abbrev two : ℕ → ℕ → Bool
  two a b = are_two_disjoint D image_of (get_or group a 0) (get_or group b 0)

  -- the images of the first n numbers are pairwise disjoint
  pub record ArePairwise (n : ℕ) : Type 0 where
    pub each : (a b : ℕ) → a < n → b < n → two a b ≡ true

  pairwise-more : (n : ℕ) → ArePairwise n → ((a : ℕ) → a < n → two a n ≡ true) → ArePairwise (n + 1)
  pairwise-more n front next = record {
    each = λ a b h l. elim (cases_eq a n) [
      | inl one ↦ elim (cases_eq b n) [
        | inl same ↦ rw (one, same, eq-own (get_or group n 0)) refl
        | inr other ↦ rw one (two-swap D image_of (get_or group b 0) (get_or group n 0) (next b (omega (arith, l, other))))
      ]
      | inr before ↦ elim (cases_eq b n) [ inl same ↦ rw same (next a (omega (arith, h, before))) | inr other ↦ front.each a b (omega (arith, h, before)) (omega (arith, l, other)) ]
    ];
  }

  pairwise-end : (n : ℕ) → length group ≤ n → ArePairwise n → are_numbers_disjoint D image_of group ≡ true
  pairwise-end n long all =
      all-at (is_number_disjoint D image_of group) group
      (λ a h. all-at (are_two_disjoint D image_of (get_or group a 0)) group (λ b l. all.each a b (omega (arith, h, long)) (omega (arith, l, long))))

  -- if the image of the next number is disjoint from the earlier ones, the first n + 1 are pairwise
  -- disjoint
  pairwise-next : (n : ℕ) → n < length group → ArePairwise n → is_number_disjoint D image_of (take n group) (get_or group n 0) ≡ true → ArePairwise (n + 1)
  pairwise-next n there front told =
      pairwise-more n front
      (λ a h. two-swap D image_of (get_or group n 0) (get_or group a 0)
      (ap (are_two_disjoint D image_of (get_or group n 0)) (sym (get_or-take n group a 0 h)) ∙ at-all (are_two_disjoint D image_of (get_or group n 0)) (take n group) a told (omega (arith, length-take n group, h, there))))

  -- if it is not, the images of the group are not disjoint
  number-clash : (n : ℕ) → n < length group → is_number_disjoint D image_of (take n group) (get_or group n 0) ≡ false → are_numbers_disjoint D image_of group ≡ false
  number-clash n there told = false_from_ne_true (are_numbers_disjoint D image_of group) (λ all. true≢false (sym (front all) ∙ told))
    where
      front : are_numbers_disjoint D image_of group ≡ true → is_number_disjoint D image_of (take n group) (get_or group n 0) ≡ true
      front all =
          let row = at-all (is_number_disjoint D image_of group) group n all there in
          all-at (are_two_disjoint D image_of (get_or group n 0)) (take n group)
          (λ k h. (let low : k < n = omega (arith, length-take n group, h, there) in
          ap (are_two_disjoint D image_of (get_or group n 0)) (get_or-take n group k 0 low) ∙ at-all (are_two_disjoint D image_of (get_or group n 0)) group k row (omega (arith, low, there))))

  -- whether the images of the first n numbers are pairwise disjoint; if not, those of the group are
  -- not
  abbrev pub Decides : ℕ → Bool → Type 0
  Decides n true = ArePairwise n
  Decides n false = are_numbers_disjoint D image_of group ≡ false

  pub decides-more : (n : ℕ) (all ok : Bool) → n < length group → Decides n all → ok ≡ is_number_disjoint D image_of (take n group) (get_or group n 0) → Decides (n + 1) (all && ok)
  decides-more n true true there h told = pairwise-next n there h (sym told)
  decides-more n true false there h told = number-clash n there (sym told)
  decides-more n false ok there h told = h

  pub decides-all : (n : ℕ) (all : Bool) → length group ≤ n → Decides n all → all ≡ are_numbers_disjoint D image_of group
  decides-all n true long h = sym (pairwise-end n long h)
  decides-all n false long h = sym h
