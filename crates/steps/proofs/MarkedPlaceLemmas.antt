-- The marked places in order, and their numbers.
use Rattle.steps.proofs.Words.{◌≡◌, ◌⊎◌, ℕ, zero, suc, ◌+◌, ◌<◌, ◌≤◌, Bool, true, false, if◌then◌else◌, List, [], ◌∷◌, ◌++◌, length, map, get_or, slice_get, Some, refl, sym, ◌∙◌, ap, subst, arith, length-append, inl, inr, length-map, map_push, IsStrictlyIncreasing, slice_get-get_or, get_or_from_slice_get, cases_Bool, cases_lt, Database, Row, no_row, steps_of, premise_places, IsEssential, is_taken, IsRenumbered, AreEssential, HasMark, AreMarks, marked_before, number_of, AreNumbers, kept_row, map-at, get-last}
use Rattle.steps.proofs.DraftRowLemmas.{some-front, some-more, step-at}
use Rattle.steps.proofs.EssentialMarkLemmas.{from-or-at}

module _ (marks : List Bool) where
  abbrev next : ℕ → Bool → List ℕ
  next k b = if b then marked_before marks k ++ k ∷ [] else marked_before marks k

  pub before-marked : (k : ℕ) → get_or marks k false ≡ true → marked_before marks (suc k) ≡ marked_before marks k ++ k ∷ []
  before-marked k h = ap (next k) h

  pub before-other : (k : ℕ) → get_or marks k false ≡ false → marked_before marks (suc k) ≡ marked_before marks k
  before-other k h = ap (next k) h

  -- the marked place k is at the index that is its number
  pub stands-at : (i k : ℕ) → k < i → HasMark marks k → slice_get (marked_before marks i) (number_of marks k) ≡ Some k
  stands-at zero k l h = absurd (omega (arith, l))
  stands-at (suc i) k l h = by (λ s. stands-at i k s h) (from-or-at k i (omega (arith, l))) (cases_Bool (get_or marks i false))
    where
      by : (suc k ≤ i → slice_get (marked_before marks i) (number_of marks k) ≡ Some k) → (i ≡ k) ⊎ (suc k ≤ i) → (get_or marks i false ≡ true) ⊎ (get_or marks i false ≡ false)
          → slice_get (marked_before marks (suc i)) (number_of marks k) ≡ Some k
      by before (inl e) o = subst (λ n. slice_get (marked_before marks (suc n)) (number_of marks k) ≡ Some k) (sym e) (ap (λ v. slice_get v (number_of marks k)) (before-marked k h) ∙ get-last (marked_before marks k) k)
      by before (inr s) (inl t) = ap (λ v. slice_get v (number_of marks k)) (before-marked i t) ∙ some-more (marked_before marks i) i (number_of marks k) k (before s)
      by before (inr s) (inr f) = ap (λ v. slice_get v (number_of marks k)) (before-other i f) ∙ before s

  abbrev IsNumbered : ℕ → ℕ → ℕ → Type 0
  IsNumbered i n k = (k < i) × HasMark marks k × (n ≡ number_of marks k)

  -- a place that has a number among those before i has it among those before i + 1
  wider : (i n k : ℕ) → IsNumbered i n k → IsNumbered (suc i) n k
  wider i n k r = (let l = r.0 in omega (arith, l), r.1, r.2)

  number-last : (i n k : ℕ) → get_or marks i false ≡ true → (slice_get (marked_before marks i) n ≡ Some k → IsNumbered i n k) → (slice_get (marked_before marks i) n ≡ Some k) ⊎ ((n ≡ length (marked_before marks i)) × (k ≡ i)) → IsNumbered (suc i) n k
  number-last i n k t before (inl e) = wider i n k (before e)
  number-last i n k t before (inr (e, same)) = subst (λ x. IsNumbered (suc i) n x) (sym same) (omega arith, t, e)

  -- the place at an index is marked, and has the index as its number
  pub has-number : (i n k : ℕ) → slice_get (marked_before marks i) n ≡ Some k → (k < i) × HasMark marks k × (n ≡ number_of marks k)
  has-number zero n k h = cc
  has-number (suc i) n k h = by (has-number i n k) (cases_Bool (get_or marks i false))
    where
      by : (slice_get (marked_before marks i) n ≡ Some k → IsNumbered i n k) → (get_or marks i false ≡ true) ⊎ (get_or marks i false ≡ false) → IsNumbered (suc i) n k
      by before (inl t) = number-last i n k t before (some-front (marked_before marks i) i n k (ap (λ v. slice_get v n) (sym (before-marked i t)) ∙ h))
      by before (inr f) = wider i n k (before (ap (λ v. slice_get v n) (sym (before-other i f)) ∙ h))

  -- the rows after a marked place, and after another one
  pub kept-more : (f : ℕ → Row) (k : ℕ) (old new : List Row) → HasMark marks k → old ≡ map f (marked_before marks k) → new ≡ old ++ f k ∷ [] → new ≡ map f (marked_before marks (k + 1))
  kept-more f k old new h is e =
      let one : k + 1 ≡ suc k = omega arith in
      e ∙ (ap (λ r. r ++ f k ∷ []) is ∙ (sym (map_push f (marked_before marks k) k) ∙ (ap (map f) (sym (before-marked k h)) ∙ ap (λ i. map f (marked_before marks i)) (sym one))))

  pub kept-same : (f : ℕ → Row) (k : ℕ) (old : List Row) → get_or marks k false ≡ false → old ≡ map f (marked_before marks k) → old ≡ map f (marked_before marks (k + 1))
  kept-same f k old h is =
      let one : k + 1 ≡ suc k = omega arith in
      is ∙ (ap (map f) (sym (before-other k h)) ∙ ap (λ i. map f (marked_before marks i)) (sym one))

  one-longer : (i : ℕ) → (get_or marks i false ≡ true) ⊎ (get_or marks i false ≡ false) → number_of marks i ≤ number_of marks (suc i)
  one-longer i (inl t) = let e = ap length (before-marked i t) in let m = length-append (marked_before marks i) (i ∷ []) in omega (arith, e, m)
  one-longer i (inr f) = let e = ap length (before-other i f) in omega (arith, e)

  -- the number of a later place is not smaller
  longer : (j i : ℕ) → j ≤ i → number_of marks j ≤ number_of marks i
  longer j zero l = let e : j ≡ 0 = omega (arith, l) in subst (λ x. number_of marks x ≤ 0) (sym e) (omega arith)
  longer j (suc i) l = by (longer j i) (from-or-at j (suc i) l)
    where
      by : (j ≤ i → number_of marks j ≤ number_of marks i) → (suc i ≡ j) ⊎ (suc j ≤ suc i) → number_of marks j ≤ number_of marks (suc i)
      by before (inl e) = subst (λ x. number_of marks j ≤ number_of marks x) (sym e) (omega arith)
      by before (inr s) = let r = before (omega (arith, s)) in let t = one-longer i (cases_Bool (get_or marks i false)) in omega (arith, r, t)

  pub in-order : (i : ℕ) → IsStrictlyIncreasing (marked_before marks i)
  in-order i = λ n within. by n (cases_lt (get_or (marked_before marks i) n 0) (get_or (marked_before marks i) (n + 1) 0)) within
    where
      by : (n : ℕ) → (get_or (marked_before marks i) n 0 < get_or (marked_before marks i) (n + 1) 0) ⊎ (get_or (marked_before marks i) (n + 1) 0 ≤ get_or (marked_before marks i) n 0) → n + 1 < length (marked_before marks i)
          → get_or (marked_before marks i) n 0 < get_or (marked_before marks i) (n + 1) 0
      by n (inl l) within = l
      by n (inr l) within =
          let a = has-number i n (get_or (marked_before marks i) n 0) (slice_get-get_or (marked_before marks i) n 0 (omega (arith, within))) in
          let b = has-number i (n + 1) (get_or (marked_before marks i) (n + 1) 0) (slice_get-get_or (marked_before marks i) (n + 1) 0 within) in
          let m = longer (get_or (marked_before marks i) (n + 1) 0) (get_or (marked_before marks i) n 0) l in
          let x = a.2 in
          let y = b.2 in
          absurd (omega (arith, m, x, y))

  pub numbers-more : (k n : ℕ) (numbers : List ℕ) → AreNumbers marks k numbers → n ≡ number_of marks k → AreNumbers marks (k + 1) (numbers ++ n ∷ [])
  numbers-more k n numbers are e = record { count = (let l = length-append numbers (n ∷ []) in let c = are.count in omega (arith, l, c)); each = λ j l. each j (cases_lt j k) l }
    where
      each : (j : ℕ) → (j < k) ⊎ (k ≤ j) → suc j ≤ k + 1 → get_or (numbers ++ n ∷ []) j 0 ≡ number_of marks j
      each j (inl less) l =
          let c = are.count in
          get_or_from_slice_get (numbers ++ n ∷ []) j (get_or numbers j 0) 0 (some-more numbers n j (get_or numbers j 0) (slice_get-get_or numbers j 0 (omega (arith, c, less)))) ∙ are.each j (omega (arith, less))
      each j (inr from) l =
          let c = are.count in
          let s : j ≡ length numbers = omega (arith, c, from, l) in
          get_or_from_slice_get (numbers ++ n ∷ []) j n 0 (ap (slice_get (numbers ++ n ∷ [])) s ∙ get-last numbers n) ∙ (e ∙ ap (number_of marks) (let r : k ≡ j = omega (arith, from, l) in r))

maps-each : {A B : Type 0} (f g : A → B) (xs : List A) → ((i : ℕ) (x : A) → slice_get xs i ≡ Some x → f x ≡ g x) → map f xs ≡ map g xs
maps-each f g [] h = refl
maps-each f g (x ∷ xs) h = ap (λ r. r ∷ map f xs) (h zero x refl) ∙ ap (λ r. g x ∷ r) (maps-each f g xs (λ i y e. h (suc i) y e))

map-twice : {A B C : Type 0} (f : B → C) (g : A → B) (xs : List A) → map f (map g xs) ≡ map (λ x. f (g x)) xs
map-twice f g [] = refl
map-twice f g (x ∷ xs) = ap (λ r. f (g x) ∷ r) (map-twice f g xs)

-- the new numbers of places, looked up
pub numbers-are : (marks : List Bool) (k : ℕ) (numbers ks : List ℕ) → AreNumbers marks k numbers → ((i x : ℕ) → slice_get ks i ≡ Some x → x < k) → map (λ x. get_or numbers x 0) ks ≡ map (number_of marks) ks
numbers-are marks k numbers ks are low = maps-each (λ x. get_or numbers x 0) (number_of marks) ks (λ i x e. are.each x (let l = low i x e in omega (arith, l)))

module _ (S : Database) (rows : List Row) (marks : List Bool) (are : AreMarks S (steps_of rows) marks) where
  abbrev kept : List ℕ
  kept = marked_before marks (length rows)

  -- a marked place is the place of a row
  within : (k : ℕ) → HasMark marks k → k < length rows
  within k h = by (cases_lt k (length marks))
    where
      past : (xs : List Bool) (k : ℕ) → length xs ≤ k → get_or xs k false ≡ false
      past [] k l = refl
      past (x ∷ xs) zero l = absurd (omega (arith, l))
      past (x ∷ xs) (suc k) l = past xs k (omega (arith, l))

      by : (k < length marks) ⊎ (length marks ≤ k) → k < length rows
      by (inl l) = let c = are.count in let m = length-map rows (λ r. r.step) in omega (arith, l, c, m)
      by (inr l) = let f = past marks k l in cc

  step-of : (k : ℕ) → k < length rows → slice_get (steps_of rows) k ≡ Some (get_or rows k no_row).step
  step-of k l = step-at rows k (get_or rows k no_row) (slice_get-get_or rows k no_row l)

  -- a step that a marked step takes for a `$e` is listed, at its new number
  numbered : (k : ℕ) → HasMark marks k → (i x : ℕ) → slice_get (premise_places S (get_or rows k no_row).step) i ≡ Some x → slice_get kept (number_of marks x) ≡ Some x
  numbered k h i x e =
      let taken : IsEssential S (steps_of rows) x = is_taken k (get_or rows k no_row).step ((are.exact k).0 h) (step-of k (within k h)) (i, e) in
      let m = (are.exact x).1 taken in
      stands-at marks (length rows) x (within x m) m

  -- the row written for a marked place is its row, renumbered
  renumbered : (k : ℕ) → HasMark marks k → IsRenumbered S kept (get_or rows k no_row) (kept_row S rows marks k)
  renumbered k h = record {
    position = refl;
    taken = map-twice (slice_get kept) (number_of marks) (premise_places S (get_or rows k no_row).step)
        ∙ maps-each (λ x. slice_get kept (number_of marks x)) (λ x. Some x) (premise_places S (get_or rows k no_row).step) (numbered k h);
    expr = refl;
  }

  pub are-essential : (n : ℕ) (new : List Row) → n ≡ length rows → new ≡ map (kept_row S rows marks) (marked_before marks n) → AreEssential S rows new
  are-essential n new e is = record {
    kept = kept;
    in_order = in-order marks (length rows);
    exact = λ k. (λ h. (are.exact k).0 (has-number marks (length rows) h.0 k h.1).1, λ h. let m = (are.exact k).1 h in (number_of marks k, stands-at marks (length rows) k (within k m) m));
    count = ap length rows-are ∙ length-map kept (kept_row S rows marks);
    each = λ m k h. subst (IsRenumbered S kept (get_or rows k no_row))
        (sym (ap (λ v. get_or v m no_row) rows-are ∙ get_or_from_slice_get (map (kept_row S rows marks) kept) m (kept_row S rows marks k) no_row (map-at (kept_row S rows marks) kept m k h)))
        (renumbered k (has-number marks (length rows) m k h).1);
  }
    where
      rows-are : new ≡ map (kept_row S rows marks) kept
      rows-are = is ∙ ap (λ i. map (kept_row S rows marks) (marked_before marks i)) e
