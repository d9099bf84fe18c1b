-- What the disjoint variable condition of a citation counts by numbers is its disjointness.
use Rattle.frame.proofs.Words.{and-false, and-true, or-false, ◌≡◌, ℕ, zero, suc, ◌+◌, ◌<◌, ◌==◌, Bool, true, false, cond, not, ◌&&◌, ◌||◌, List, [], ◌∷◌, ◌++◌, length, filter, refl, sym, ◌∙◌, ap, subst, arith, true≢false, append_assoc, length-map, map-append, list_any, list_any-map, or_left, or_right, or_parts, and_parts, Name, name_eq, has_name, name_same, Stmt, Database, name_at, decode, AreDistinct, AreBelow, CodeImages, Images, image, images_of_names, is_mandatory, Hypothesis, Numbered, is_numbered_pair, has_number, float_variables, pair_lists, pairs_by, has_two_or_more_items, IsEachOnce, IsReordered, AreReordered, AreMandatoryPairs}
use Rattle.std.specs.List.{sum_by}
use Rattle.std.proofs.lemmas.List.Sums.{sum_by-append, sum_by-cons}
use Rattle.scope.specs.Active.{typed_variables}
use Rattle.frame.specs.DisjointWork.{all_pairs_work, disjointness, has_pair, image_work, new_variables, pairs_work, variable_count, variables_in}
use Rattle.frame.specs.FrameOf.{is_mandatory_pair}
use Rattle.frame.specs.NumberedWork.{image_variables, images_length, is_numbered_variable, list_work, list_work_after, lists_work, lists_work_after, new_numbers, numbered_row, numbered_variable_count, numbered_variables, numbers_but, read_after, read_all}
use Rattle.frame.specs.Sizes.{mandatory_variables, row}
use Rattle.frame.specs.Substitution.{code_image, images_from}
use Rattle.frame.proofs.GroupsLemmas.{has-filter}
use Rattle.frame.proofs.KindWalk.{not-has, same-number}
use Rattle.frame.proofs.MandatoryVariableLemmas.{floats-once}
use Rattle.frame.proofs.NewNumberLemmas.{new-append, new-has, new-once}
use Rattle.frame.proofs.PairLawLemmas.{eq-turn, pair-none, pair-turn}
use Rattle.frame.proofs.PairListLemmas.{filter-below, filter-has, filter-named, has-append, own, turn}
use Rattle.frame.proofs.SumLemmas.{but-absent, filter-once, sum-below, sum-map, sum-once}
use Rattle.frame.proofs.SymbolNumberLemmas.{below-push}

-- ---- lists of numbers

any-agree : (p q : ℕ → Bool) (xs : List ℕ) → ((y : ℕ) → has_number xs y ≡ true → p y ≡ q y) → list_any p xs ≡ list_any q xs
any-agree p q [] same = refl
any-agree p q (x ∷ xs) same =
    ap (λ b. b || list_any p xs) (same x (ap (λ b. b || has_number xs x) (own x))) ∙ ap (λ b. q x || b) (any-agree p q xs (λ y h. same y (or_right (x == y) (has_number xs y) h)))

number-name : (names : List Name) (xs : List ℕ) (y : ℕ) → has_number xs y ≡ true → has_name (name_at names y) (decode names xs) ≡ true
number-name names [] y h = absurd (true≢false (sym h))
number-name names (x ∷ xs) y h = by (x == y) refl h (number-name names xs y)
  where
    by : (b : Bool) → (x == y) ≡ b → (b || has_number xs y) ≡ true → (has_number xs y ≡ true → has_name (name_at names y) (decode names xs) ≡ true)
        → (name_eq (name_at names y) (name_at names x) || has_name (name_at names y) (decode names xs)) ≡ true
    by true e k more = let same : x ≡ y = grind (arith, e) in or_left (name_eq (name_at names y) (name_at names x)) _ (ap (λ z. name_eq (name_at names y) (name_at names z)) same ∙ name_same (name_at names y))
    by false e k more = or_right (name_eq (name_at names y) (name_at names x)) _ (more k)

once-front : (xs ys : List ℕ) → IsEachOnce (xs ++ ys) → IsEachOnce xs
once-front [] ys once = tt
once-front (x ∷ xs) ys once = ((or_parts (has_number xs x) (has_number ys x) (sym (has-append xs ys x) ∙ once.0)).0, once-front xs ys once.1)

-- ---- the lists of pairs

-- the others of a list are each once
abbrev IsTailOnce : List ℕ → Type 0
IsTailOnce [] = Unit {0}
IsTailOnce (x ∷ xs) = IsEachOnce xs

abbrev AreTailsOnce : List (List ℕ) → Type 0
AreTailsOnce [] = Unit {0}
AreTailsOnce (l ∷ lists) = IsTailOnce l × AreTailsOnce lists

tails-once : (p : ℕ → ℕ → Bool) (before xs : List ℕ) → IsEachOnce (before ++ xs) → AreTailsOnce (filter has_two_or_more_items (pair_lists p before xs))
tails-once p before [] once = tt
tails-once p before (x ∷ xs) once =
    by (has_two_or_more_items (x ∷ filter (p x) before)) (filter-once (p x) before (once-front before (x ∷ xs) once)) (tails-once p (before ++ x ∷ []) xs (subst IsEachOnce (sym (append_assoc before (x ∷ []) xs)) once))
  where
    rest : List (List ℕ)
    rest = filter has_two_or_more_items (pair_lists p (before ++ x ∷ []) xs)

    by : (b : Bool) → IsEachOnce (filter (p x) before) → AreTailsOnce rest → AreTailsOnce (cond b ((x ∷ filter (p x) before) ∷ rest) rest)
    by true one more = (one, more)
    by false one more = more

-- the numbers of the lists, one list after another
flat : List (List ℕ) → List ℕ
flat [] = []
flat (l ∷ lists) = l ++ flat lists

flat-has : (lists : List (List ℕ)) (c : ℕ) → has_number (flat lists) c ≡ list_any (λ l. has_number l c) lists
unfolding flat
flat-has [] c = refl
flat-has (l ∷ lists) c = has-append l (flat lists) c ∙ ap (λ b. has_number l c || b) (flat-has lists c)

reordered-any : (L lists : List (List ℕ)) (c : ℕ) → AreReordered L lists → list_any (λ l. has_number l c) lists ≡ list_any (λ l. has_number l c) L
reordered-any [] [] c are = refl
reordered-any (l ∷ L) (m ∷ lists) c are = ap (λ b. b || list_any (λ k. has_number k c) lists) (one l m are.0) ∙ ap (λ b. has_number l c || b) (reordered-any L lists c are.1)
  where
    one : (l m : List ℕ) → IsReordered l m → has_number m c ≡ has_number l c
    one (x ∷ xs) (y ∷ ys) is = ap (λ z. (z == c) || has_number ys c) is.0 ∙ ap (λ b. (x == c) || b) (is.1.each c)
    one l m is = absurd is
reordered-any L lists c are = absurd are

some-passes : (test : ℕ → Bool) (c : ℕ) (ys : List ℕ) → test c ≡ true → has_number ys c ≡ true → list_any test ys ≡ true
some-passes test c [] passes h = absurd (true≢false (sym h))
some-passes test c (y ∷ ys) passes h = by (y == c) refl h (some-passes test c ys passes)
  where
    by : (b : Bool) → (y == c) ≡ b → (b || has_number ys c) ≡ true → (has_number ys c ≡ true → list_any test ys ≡ true) → (test y || list_any test ys) ≡ true
    by true e k more = let same : y ≡ c = grind (arith, e) in or_left (test y) (list_any test ys) (ap test same ∙ passes)
    by false e k more = or_right (test y) (list_any test ys) (more k)

-- a number is in a list of pairs exactly if it has a pair
pairs-any : (p : ℕ → ℕ → Bool) → ((x : ℕ) → p x x ≡ false) → ((x y : ℕ) → p x y ≡ p y x) → (c : ℕ) (before xs : List ℕ)
    → list_any (λ l. has_number l c) (filter has_two_or_more_items (pair_lists p before xs)) ≡ ((has_number xs c && list_any (p c) before) || ((has_number before c && list_any (p c) xs) || (has_number xs c && list_any (p c) xs)))
pairs-any p none flips c before [] = last (has_number before c)
  where
    last : (a : Bool) → false ≡ (false || ((a && false) || false))
    last true = refl
    last false = refl
pairs-any p none flips c before (x ∷ xs) =
    listed (x ∷ filter (p x) before) rest
    ∙ (ap (λ b. b || list_any (λ l. has_number l c) rest) own-list
    ∙ (ap (λ b. (((x == c) && list_any (p c) before) || (p c x && has_number before c)) || b) (more (pairs-any p none flips c (before ++ x ∷ []) xs))
    ∙ shuffle (x == c) (has_number before c) (has_number xs c) (list_any (p c) before) (list_any (p c) xs) (p c x) apart))
  where
    rest : List (List ℕ)
    rest = filter has_two_or_more_items (pair_lists p (before ++ x ∷ []) xs)

    listed : (l : List ℕ) (more : List (List ℕ)) → list_any (λ k. has_number k c) (cond (has_two_or_more_items l) (l ∷ more) more) ≡ ((has_two_or_more_items l && has_number l c) || list_any (λ k. has_number k c) more)
    listed l more = by (has_two_or_more_items l)
      where
        by : (b : Bool) → list_any (λ k. has_number k c) (cond b (l ∷ more) more) ≡ ((b && has_number l c) || list_any (λ k. has_number k c) more)
        by true = refl
        by false = refl

    -- whether there are others
    two : (test : ℕ → Bool) (ys : List ℕ) → has_two_or_more_items (x ∷ filter test ys) ≡ list_any test ys
    two test [] = refl
    two test (y ∷ ys) = by (test y) (two test ys)
      where
        by : (b : Bool) → has_two_or_more_items (x ∷ filter test ys) ≡ list_any test ys → has_two_or_more_items (x ∷ cond b (y ∷ filter test ys) (filter test ys)) ≡ (b || list_any test ys)
        by true e = refl
        by false e = e

    own-list : (has_two_or_more_items (x ∷ filter (p x) before) && has_number (x ∷ filter (p x) before) c) ≡ (((x == c) && list_any (p c) before) || (p c x && has_number before c))
    own-list =
        ap (λ b. b && ((x == c) || has_number (filter (p x) before) c)) (two (p x) before)
        ∙ (ap (λ b. list_any (p x) before && ((x == c) || b)) (filter-has (p x) before c ∙ ap (λ b. b && has_number before c) (flips x c))
        ∙ by (x == c) refl)
      where
        absorbed : (a b : Bool) → (b ≡ true → a ≡ true) → (a && b) ≡ b
        absorbed a true h = ap (λ t. t && true) (h refl)
        absorbed a false h = and-false a

        by : (b : Bool) → (x == c) ≡ b → (list_any (p x) before && (b || (p c x && has_number before c))) ≡ ((b && list_any (p c) before) || (p c x && has_number before c))
        by true e =
            let same : x ≡ c = grind (arith, e) in
            let never : p c x ≡ false = ap (p c) same ∙ none c in
            and-true (list_any (p x) before) ∙ (sym (or-false (list_any (p x) before)) ∙ (ap (λ b. list_any (p x) before || (b && has_number before c)) (sym never) ∙ ap (λ z. list_any (p z) before || (p c x && has_number before c)) same))
        by false e = absorbed (list_any (p x) before) (p c x && has_number before c) (λ h. let q = and_parts (p c x) (has_number before c) h in some-passes (p x) c before (flips x c ∙ q.0) q.1)

    any-push : list_any (p c) (before ++ x ∷ []) ≡ (list_any (p c) before || p c x)
    any-push = each before
      where
        each : (ys : List ℕ) → list_any (p c) (ys ++ x ∷ []) ≡ (list_any (p c) ys || p c x)
        each [] = or-false (p c x)
        each (y ∷ ys) = by (p c y) (each ys)
          where
            by : (b : Bool) → list_any (p c) (ys ++ x ∷ []) ≡ (list_any (p c) ys || p c x) → (b || list_any (p c) (ys ++ x ∷ [])) ≡ ((b || list_any (p c) ys) || p c x)
            by true e = refl
            by false e = e

    has-push : has_number (before ++ x ∷ []) c ≡ (has_number before c || (x == c))
    has-push = has-append before (x ∷ []) c ∙ ap (λ b. has_number before c || b) (or-false (x == c))

    more : list_any (λ l. has_number l c) rest ≡ ((has_number xs c && list_any (p c) (before ++ x ∷ [])) || ((has_number (before ++ x ∷ []) c && list_any (p c) xs) || (has_number xs c && list_any (p c) xs)))
        → list_any (λ l. has_number l c) rest
        ≡ ((has_number xs c && (list_any (p c) before || p c x)) || (((has_number before c || (x == c)) && list_any (p c) xs) || (has_number xs c && list_any (p c) xs)))
    more later =
        later
        ∙ (ap (λ b. (has_number xs c && b) || ((has_number (before ++ x ∷ []) c && list_any (p c) xs) || (has_number xs c && list_any (p c) xs))) any-push
        ∙ ap (λ b. (has_number xs c && (list_any (p c) before || p c x)) || ((b && list_any (p c) xs) || (has_number xs c && list_any (p c) xs))) has-push)

    apart : (x == c) ≡ true → p c x ≡ false
    apart e = let same : x ≡ c = grind (arith, e) in ap (p c) same ∙ none c

    shuffle : (e hb hx ab ax q : Bool) → (e ≡ true → q ≡ false)
        → (((e && ab) || (q && hb)) || ((hx && (ab || q)) || (((hb || e) && ax) || (hx && ax))))
        ≡ (((e || hx) && ab) || ((hb && (q || ax)) || ((e || hx) && (q || ax))))
    shuffle true hb hx ab ax true h = absurd (true≢false (h refl))
    shuffle true hb hx ab ax false h = grind arith
    shuffle false hb hx ab ax q h = grind arith

-- ---- images by number

image-from : (names : List Name) (σ : CodeImages) (k : ℕ) (xs : List Name) (n : ℕ) → AreDistinct xs → n < length xs → image (images_from names σ k xs) (name_at xs n) ≡ decode names (code_image σ (n + k))
image-from names σ k [] n distinct low = absurd (omega (arith, low))
image-from names σ k (x ∷ xs) zero distinct low =
    let e : k ≡ zero + k = omega arith in
    ap (λ b. cond b (decode names (code_image σ k)) (image (images_from names σ (suc k) xs) x)) (name_same x) ∙ ap (λ m. decode names (code_image σ m)) e
image-from names σ k (x ∷ xs) (suc n) distinct low =
    let less : n < length xs = omega (arith, low) in
    let e : n + suc k ≡ suc n + k = omega arith in
    ap (λ b. cond b (decode names (code_image σ k)) (image (images_from names σ (suc k) xs) (name_at xs n))) (eq-turn (name_at xs n) x ∙ not-has xs n x distinct.0 less)
    ∙ (image-from names σ (suc k) xs n distinct.1 less ∙ ap (λ m. decode names (code_image σ m)) e)

module _ (v : Numbered) (σ : CodeImages) (distinct : AreDistinct v.names) (over : (n : ℕ) → n < length v.names → AreBelow (length v.names) (code_image σ n)) where
  abbrev N : List Name
  N = v.names

  abbrev named_images : Images
  named_images = images_of_names N σ

  pub image-number : (x : ℕ) → x < length N → image named_images (name_at N x) ≡ decode N (code_image σ x)
  image-number x low = let e : x + 0 ≡ x = omega arith in image-from N σ 0 N x distinct low ∙ ap (λ m. decode N (code_image σ m)) e

  -- the variables that were met have these names
  abbrev AreMet : List ℕ → List Name → Type 0
  AreMet met named = (c : ℕ) → c < length N → is_numbered_variable v c ≡ true → has_name (name_at N c) named ≡ has_number met c

  abbrev new_named : List Name → List ℕ → List Name
  new_named named codes = new_variables v.statements named (decode N codes)

  abbrev new_decoded : List ℕ → List ℕ → List Name
  new_decoded met codes = decode N (filter (is_numbered_variable v) (new_numbers met codes))

  variables-met : (met : List ℕ) (named : List Name) (codes : List ℕ) → AreBelow (length N) codes → AreMet met named → new_named named codes ≡ new_decoded met codes
  variables-met met named [] low same = refl
  variables-met met named (x ∷ codes) low same =
      by (variables-met met named codes low.1 same) (variables-met (x ∷ met) (X ∷ named) codes low.1) (variables-met (x ∷ met) named codes low.1) (is_numbered_variable v x) refl
    where
      X : Name
      X = name_at N x

      decoded : Bool → List Name
      decoded b = decode N (cond b (x ∷ filter (is_numbered_variable v) (new_numbers (x ∷ met) codes)) (filter (is_numbered_variable v) (new_numbers (x ∷ met) codes)))

      also-met : AreMet (x ∷ met) (X ∷ named)
      also-met c less is = ap (λ b. b || has_name (name_at N c) named) (sym (same-number N c x distinct less low.0) ∙ turn c x) ∙ ap (λ b. (x == c) || b) (same c less is)

      still-met : is_numbered_variable v x ≡ false → AreMet (x ∷ met) named
      still-met e c less is = same c less is ∙ ap (λ b. b || has_number met c) (sym (other (x == c) refl))
        where
          other : (b : Bool) → (x == c) ≡ b → (x == c) ≡ false
          other true k = let one : x ≡ c = grind (arith, k) in absurd (true≢false (sym is ∙ (ap (is_numbered_variable v) (sym one) ∙ e)))
          other false k = k

      is-variable : new_named named codes ≡ new_decoded met codes → new_named (X ∷ named) codes ≡ new_decoded (x ∷ met) codes → is_numbered_variable v x ≡ true → (h : Bool)
          → cond (not h) (X ∷ new_named (X ∷ named) codes) (new_named named codes) ≡ decode N (filter (is_numbered_variable v) (cond h (new_numbers met codes) (x ∷ new_numbers (x ∷ met) codes)))
      is-variable skip read e true = skip
      is-variable skip read e false = ap (λ l. X ∷ l) read ∙ ap decoded (sym e)

      is-none : new_named named codes ≡ new_decoded met codes → new_named named codes ≡ new_decoded (x ∷ met) codes → is_numbered_variable v x ≡ false → (h : Bool)
          → new_named named codes ≡ decode N (filter (is_numbered_variable v) (cond h (new_numbers met codes) (x ∷ new_numbers (x ∷ met) codes)))
      is-none skip read e true = skip
      is-none skip read e false = read ∙ ap decoded (sym e)

      by : new_named named codes ≡ new_decoded met codes → (AreMet (x ∷ met) (X ∷ named) → new_named (X ∷ named) codes ≡ new_decoded (x ∷ met) codes) → (AreMet (x ∷ met) named → new_named named codes ≡ new_decoded (x ∷ met) codes)
          → (b : Bool) → is_numbered_variable v x ≡ b
          → cond (is_numbered_variable v x && not (has_name X named)) (X ∷ new_named (X ∷ named) codes) (new_named named codes)
          ≡ decode N (filter (is_numbered_variable v) (cond (has_number met x) (new_numbers met codes) (x ∷ new_numbers (x ∷ met) codes)))
      by skip read other true e =
          ap (λ b. cond (b && not (has_name X named)) (X ∷ new_named (X ∷ named) codes) (new_named named codes)) e
          ∙ (ap (λ b. cond (not b) (X ∷ new_named (X ∷ named) codes) (new_named named codes)) (same x low.0 e) ∙ is-variable skip (read also-met) e (has_number met x))
      by skip read other false e =
          ap (λ b. cond (b && not (has_name X named)) (X ∷ new_named (X ∷ named) codes) (new_named named codes)) e ∙ is-none skip (other (still-met e)) e (has_number met x)

  -- the variables of an expression, by number
  pub variables-decoded : (codes : List ℕ) → AreBelow (length N) codes → variables_in v.statements (decode N codes) ≡ decode N (numbered_variables v codes)
  variables-decoded codes low = variables-met [] [] codes low (λ c less is. refl)

  image-variables : (x : ℕ) → x < length N → variables_in v.statements (image named_images (name_at N x)) ≡ decode N (image_variables v σ x)
  image-variables x low = ap (variables_in v.statements) (image-number x low) ∙ variables-decoded (code_image σ x) (over x low)

  count-named : (others : List ℕ) → AreBelow (length N) others → variable_count v.statements named_images (decode N others) ≡ numbered_variable_count v σ others
  count-named others low =
      sum-map (λ y. length (variables_in v.statements (image named_images y))) (name_at N) others
      ∙ sum-below (length N) (λ y. length (variables_in v.statements (image named_images (name_at N y)))) (λ y. length (image_variables v σ y)) others low (λ y less. ap length (image-variables y less) ∙ length-map (image_variables v σ y) (name_at N))

  -- what one variable counts with the others that are before it
  pairs-named : (x : ℕ) (others : List ℕ) → x < length N → AreBelow (length N) others → numbers_but x others ≡ others
      → pairs_work v.statements named_images (decode N others) (name_at N x) ≡ cond (has_two_or_more_items (x ∷ others)) (list_work v σ (x ∷ others)) 0
  pairs-named x [] less low but = refl
  pairs-named x (y ∷ others) less low but =
      let f = λ (u : Name). row v.statements u + variable_count v.statements named_images (decode N (y ∷ others)) in
      ap (sum_by f) (image-variables x less)
      ∙ (sum-map f (name_at N) (image_variables v σ x)
      ∙ ap (λ n. sum_by (λ u. numbered_row v u + n) (image_variables v σ x)) (count-named (y ∷ others) low ∙ ap (numbered_variable_count v σ) (sym but)))

  -- ---- the lists of one assertion

  module _ (A : Database) (s : Stmt) where
    abbrev pair : ℕ → ℕ → Bool
    pair = is_numbered_pair (record { statements = A; names = N })

    -- the mandatory pairs of mandatory variables are the pairs
    both : (x y : ℕ) → is_mandatory A s (name_at N x) ≡ true → is_mandatory A s (name_at N y) ≡ true → is_mandatory_pair A s (name_at N x) (name_at N y) ≡ pair x y
    both x y a b = ap (λ t. (pair x y && t) && is_mandatory A s (name_at N y)) a ∙ (ap (λ t. (pair x y && true) && t) b ∙ (and-true (pair x y && true) ∙ and-true (pair x y)))

    pairs-before : (x : ℕ) (before : List ℕ) → is_mandatory A s (name_at N x) ≡ true → ((y : ℕ) → has_number before y ≡ true → is_mandatory A s (name_at N y) ≡ true)
        → filter (is_mandatory_pair A s (name_at N x)) (decode N before) ≡ decode N (filter (pair x) before)
    pairs-before x [] a known = refl
    pairs-before x (y ∷ before) a known =
        ap (λ b. cond b (name_at N y ∷ filter (is_mandatory_pair A s (name_at N x)) (decode N before)) (filter (is_mandatory_pair A s (name_at N x)) (decode N before))) (both x y a (known y (ap (λ b. b || has_number before y) (own y))))
        ∙ by (pair x y) (pairs-before x before a (λ z h. known z (or_right (y == z) (has_number before z) h)))
      where
        by : (b : Bool) → filter (is_mandatory_pair A s (name_at N x)) (decode N before) ≡ decode N (filter (pair x) before)
            → cond b (name_at N y ∷ filter (is_mandatory_pair A s (name_at N x)) (decode N before)) (filter (is_mandatory_pair A s (name_at N x)) (decode N before)) ≡ decode N (cond b (y ∷ filter (pair x) before) (filter (pair x) before))
        by true e = ap (λ l. name_at N y ∷ l) e
        by false e = e

    all-lists : (before xs : List ℕ) → AreBelow (length N) before → AreBelow (length N) xs → ((y : ℕ) → has_number (before ++ xs) y ≡ true → is_mandatory A s (name_at N y) ≡ true)
        → sum_by (list_work v σ) (filter has_two_or_more_items (pair_lists pair before xs)) ≡ all_pairs_work A s v.statements named_images (decode N before) (decode N xs)
    all-lists before [] low low' known = refl
    all-lists before (x ∷ xs) low low' known =
        by (has_two_or_more_items (x ∷ others))
        ∙ (ap (λ n. n + sum_by (list_work v σ) rest) (sym (pairs-named x others low'.0 (filter-below (length N) (pair x) before low) (but-absent x others (filter-has (pair x) before x ∙ ap (λ b. b && has_number before x) (pair-none A (name_at N x))))))
        ∙ (ap (λ l. pairs_work v.statements named_images l (name_at N x) + sum_by (list_work v σ) rest) (sym (pairs-before x before mandatory earlier))
        ∙ ap (λ n. pairs_work v.statements named_images (filter (is_mandatory_pair A s (name_at N x)) (decode N before)) (name_at N x) + n)
        (all-lists (before ++ x ∷ []) xs (below-push (length N) before x low low'.0) low'.1 (λ y h. known y (ap (λ l. has_number l y) (sym (append_assoc before (x ∷ []) xs)) ∙ h))
        ∙ ap (λ l. all_pairs_work A s v.statements named_images l (decode N xs)) (map-append (name_at N) before (x ∷ [])))))
      where
        others : List ℕ
        others = filter (pair x) before

        rest : List (List ℕ)
        rest = filter has_two_or_more_items (pair_lists pair (before ++ x ∷ []) xs)

        mandatory : is_mandatory A s (name_at N x) ≡ true
        mandatory = known x (has-append before (x ∷ xs) x ∙ or_right (has_number before x) _ (ap (λ b. b || has_number xs x) (own x)))

        earlier : (y : ℕ) → has_number before y ≡ true → is_mandatory A s (name_at N y) ≡ true
        earlier y h = known y (has-append before (x ∷ xs) y ∙ or_left (has_number before y) _ h)

        by : (b : Bool) → sum_by (list_work v σ) (cond b ((x ∷ others) ∷ rest) rest) ≡ cond b (list_work v σ (x ∷ others)) 0 + sum_by (list_work v σ) rest
        by true = sum_by-cons (list_work v σ) (x ∷ others) rest
        by false = omega arith

  -- the order of the others does not count
  reordered-sum : (L lists : List (List ℕ)) → AreTailsOnce L → AreReordered L lists → sum_by (list_work v σ) lists ≡ sum_by (list_work v σ) L
  reordered-sum [] [] once are = refl
  reordered-sum (l ∷ L) (m ∷ lists) once are =
      sum_by-cons (list_work v σ) m lists
      ∙ (ap (λ n. n + sum_by (list_work v σ) lists) (one l m once.0 are.0) ∙ (ap (λ n. list_work v σ l + n) (reordered-sum L lists once.1 are.1) ∙ sym (sum_by-cons (list_work v σ) l L)))
    where
      one : (l m : List ℕ) → IsTailOnce l → IsReordered l m → list_work v σ m ≡ list_work v σ l
      one (x ∷ xs) (y ∷ ys) tail is =
          ap (λ z. list_work v σ (z ∷ ys)) is.0
          ∙ ap (λ n. sum_by (λ u. numbered_row v u + n) (image_variables v σ x))
          (sum-once (λ z. length (image_variables v σ z)) (numbers_but x xs) (numbers_but x ys) (filter-once (λ z. not (x == z)) xs tail) (filter-once (λ z. not (x == z)) ys is.1.once)
          (λ c. filter-has (λ z. not (x == z)) ys c ∙ (ap (λ b. not (x == c) && b) (is.1.each c) ∙ sym (filter-has (λ z. not (x == z)) xs c))))
      one l m tail is = absurd is
  reordered-sum L lists once are = absurd are

  -- the images are read where their numbers are first met
  read-first : (read : List ℕ) (lists : List (List ℕ)) → lists_work_after v σ read lists ≡ images_length σ (new_numbers read (flat lists)) + sum_by (list_work v σ) lists
  unfolding flat
  read-first read [] = refl
  read-first read (l ∷ lists) =
      let a = read-first (read_after read l) lists in
      let b = sum_by-append (λ x. length (code_image σ x)) (new_numbers read l) (new_numbers (read_after read l) (flat lists)) in
      let c = ap (images_length σ) (new-append read l (flat lists)) in
      let d = sum_by-cons (list_work v σ) l lists in
      omega (arith, a, b, c, d)

  -- the lists of an assertion whose variables these are
  module _ (A : Database) (s : Stmt) (variables : List ℕ) (lists : List (List ℕ)) (low : AreBelow (length N) variables) (once : IsEachOnce variables) (named : decode N variables ≡ mandatory_variables A s)
      (are : AreReordered (pairs_by (pair A s) variables) lists) where
    known : (y : ℕ) → has_number variables y ≡ true → is_mandatory A s (name_at N y) ≡ true
    known y h = (and_parts (has_name (name_at N y) (typed_variables A)) (is_mandatory A s (name_at N y)) (sym (has-filter (is_mandatory A s) (name_at N y) (typed_variables A)) ∙ (ap (has_name (name_at N y)) (sym named) ∙ number-name N variables y h))).1

    abbrev has_a_pair : ℕ → Bool
    has_a_pair c = has_pair A s (decode N variables) (name_at N c)

    pair-number : (c : ℕ) → is_mandatory A s (name_at N c) ≡ true → has_a_pair c ≡ list_any (pair A s c) variables
    pair-number c a =
        sym (list_any-map (name_at N) (is_mandatory_pair A s (name_at N c)) variables)
        ∙ any-agree (λ y. is_mandatory_pair A s (name_at N c) (name_at N y)) (pair A s c) variables (λ y h. both A s c y a (known y h))

    members : (c : ℕ) → has_number (new_numbers [] (flat lists)) c ≡ has_number (filter has_a_pair variables) c
    members c =
        new-has [] (flat lists) c
        ∙ (and-true (has_number (flat lists) c)
        ∙ (flat-has lists c
        ∙ (reordered-any (pairs_by (pair A s) variables) lists c are
        ∙ (pairs-any (pair A s) (λ x. pair-none A (name_at N x)) (λ x y. pair-turn A (name_at N x) (name_at N y)) c [] variables
        ∙ (first (has_number variables c) (list_any (pair A s c) variables)
        ∙ (by (has_number variables c) refl ∙ sym (filter-has has_a_pair variables c)))))))
      where
        first : (h p : Bool) → ((h && false) || ((false && p) || (h && p))) ≡ (h && p)
        first true p = refl
        first false p = refl

        by : (h : Bool) → has_number variables c ≡ h → (h && list_any (pair A s c) variables) ≡ (has_a_pair c && h)
        by true e = sym (pair-number c (known c e)) ∙ sym (and-true (has_a_pair c))
        by false e = sym (and-false (has_a_pair c))

    images-named : image_work A s named_images ≡ images_length σ (filter has_a_pair variables)
    images-named =
        ap (λ m. sum_by (λ x. length (image named_images x)) (filter (has_pair A s m) m)) (sym named)
        ∙ (ap (sum_by (λ x. length (image named_images x))) (sym (filter-named N (has_pair A s (decode N variables)) variables))
        ∙ (sum-map (λ x. length (image named_images x)) (name_at N) (filter has_a_pair variables)
        ∙ sum-below (length N) (λ x. length (image named_images (name_at N x))) (λ x. length (code_image σ x)) (filter has_a_pair variables) (filter-below (length N) has_a_pair variables low)
        (λ x less. ap length (image-number x less) ∙ length-map (code_image σ x) (name_at N))))

    counted : lists_work v σ lists ≡ disjointness A s v.statements named_images
    counted =
        let a = read-first [] lists in
        let b = sum-once (λ x. length (code_image σ x)) (filter has_a_pair variables) (new_numbers [] (flat lists)) (filter-once has_a_pair variables once) (new-once [] (flat lists)) members in
        let c = images-named in
        let d = reordered-sum (pairs_by (pair A s) variables) lists (tails-once (pair A s) [] variables once) are in
        let e = all-lists A s [] variables tt low known in
        let f = ap (all_pairs_work A s v.statements named_images []) named in
        omega (arith, a, b, c, d, e, f)

-- one more list is read
pub read-push : (read : List ℕ) (lists : List (List ℕ)) (list : List ℕ) → read_all read (lists ++ list ∷ []) ≡ read_after (read_all read lists) list
read-push read [] list = refl
read-push read (l ∷ lists) list = read-push (read_after read l) lists list

-- what one more list counts is added
pub work-push : (v : Numbered) (σ : CodeImages) (read : List ℕ) (lists : List (List ℕ)) (list : List ℕ)
    → lists_work_after v σ read (lists ++ list ∷ []) ≡ lists_work_after v σ read lists + list_work_after v σ (read_all read lists) list
work-push v σ read [] list = omega arith
work-push v σ read (l ∷ lists) list = let more = work-push v σ (read_after read l) lists list in omega (arith, more)

-- what is counted for the lists of the mandatory pairs of an assertion s, which follows the
-- statements A, is the disjointness of its citation
pub lists-disjointness : (v : Numbered) (σ : CodeImages) (A : Database) (s : Stmt) (hs : List Hypothesis) (lists : List (List ℕ))
    → AreDistinct v.names → ((n : ℕ) → n < length v.names → AreBelow (length v.names) (code_image σ n)) → AreBelow (length v.names) (float_variables hs) → decode v.names (float_variables hs) ≡ mandatory_variables A s
    → AreMandatoryPairs (record { statements = A; names = v.names }) hs lists → lists_work v σ lists ≡ disjointness A s v.statements (images_of_names v.names σ)
lists-disjointness v σ A s hs lists distinct over low named are = counted v σ distinct over A s (float_variables hs) lists low (floats-once hs) named are
