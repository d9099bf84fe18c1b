-- The lists of the mandatory pairs of an assertion, by numbers.
use Rattle.frame.proofs.Words.{and_comm, ◌≡◌, ℕ, zero, suc, ◌+◌, ◌<◌, ◌≤◌, Bool, true, false, cond, not, ◌||◌, ◌&&◌, ◌==◌, List, [], ◌∷◌, ◌++◌, length, map, filter, take, slice_get, get_or, drop, Some, refl, sym, ◌∙◌, ap, subst, arith, append-nil, append_assoc, map-append, filter-append, list_any, list_any_more, or-false, or_right, or_parts, or_from, and-false, nat_lt, true≢false, false_from_ne_true, any-filter_same, take_all, Result, Ok, Err, OnOk, OnErr, AddsBefore, IsPairList, Hypothesis, is_typed, AreBelow, AllBelow, Name, name_at, decode, Numbered, is_pair, is_numbered_pair, has_number, with_number, with_floats, float_variables, pair_lists, has_two_or_more_items, pairs_by, with_list, IsEachOnce, IsReordered, AreReordered, cases_Bool, inl, inr, or_assoc}
use Rattle.entries.specs.declared.assertion_view.Hypothesis.TheVariants.{Float, Essential}
use Rattle.frame.proofs.BlockWalkLemmas.{take-one}
use Rattle.frame.proofs.SymbolNumberLemmas.{below-push, below-take}

-- ---- numbers in a list

pub own : (c : ℕ) → (c == c) ≡ true
own c = grind arith

pub turn : (c d : ℕ) → (c == d) ≡ (d == c)
turn c d = grind arith

pub has-turn : (list : List ℕ) (c : ℕ) → list_any (λ d. c == d) list ≡ has_number list c
has-turn [] c = refl
has-turn (x ∷ xs) c = ap (λ b. b || list_any (λ d. c == d) xs) (turn c x) ∙ ap (λ b. (x == c) || b) (has-turn xs c)

pub has-append : (xs ys : List ℕ) (c : ℕ) → has_number (xs ++ ys) c ≡ (has_number xs c || has_number ys c)
has-append [] ys c = refl
has-append (x ∷ xs) ys c = ap (λ b. (x == c) || b) (has-append xs ys c) ∙ sym (or_assoc (x == c) (has_number xs c) (has_number ys c))

pub below-each : (n : ℕ) (xs : List ℕ) → ((c : ℕ) → has_number xs c ≡ true → c < n) → AreBelow n xs
below-each n [] h = tt
below-each n (x ∷ xs) h = (h x (ap (λ b. b || has_number xs x) (own x)), below-each n xs (λ c k. h c (or_right (x == c) (has_number xs c) k)))

pub each-below : (n : ℕ) (xs : List ℕ) (c : ℕ) → AreBelow n xs → has_number xs c ≡ true → c < n
each-below n [] c b h = absurd (true≢false (sym h))
each-below n (x ∷ xs) c b h = by (x == c) refl h (each-below n xs c b.1)
  where
    by : (t : Bool) → (x == c) ≡ t → (t || has_number xs c) ≡ true → (has_number xs c ≡ true → c < n) → c < n
    by true e k more = let low = b.0 in let same : x ≡ c = grind (arith, e) in omega (arith, low, same)
    by false e k more = more k

pub once-push : (xs : List ℕ) (c : ℕ) → IsEachOnce xs → has_number xs c ≡ false → IsEachOnce (xs ++ c ∷ [])
once-push [] c once none = (refl, tt)
once-push (x ∷ xs) c once none =
    let p = or_parts (x == c) (has_number xs c) none in
    (has-append xs (c ∷ []) x ∙ ap (λ b. b || ((c == x) || false)) once.0 ∙ ap (λ b. b || false) (turn c x ∙ p.0), once-push xs c once.1 p.1)

-- ---- the variables of the `$f`

-- a test of equal numbers
at-same : (f : ℕ → Bool) (x c : ℕ) → (f c && (x == c)) ≡ (f x && (x == c))
at-same f x c = elim (cases_Bool (x == c)) [
  | inl e ↦ let same : x ≡ c = grind (arith, e) in ap (λ z. f z && (x == c)) (sym same)
  | inr e ↦ rw e (and-false (f c) ∙ sym (and-false (f x)))
]

with-number-has : (found : List ℕ) (x c : ℕ) → has_number (with_number found x) c ≡ (has_number found c || (x == c))
with-number-has found x c = by (has_number found x) refl
  where
    absorbed : (a b : Bool) → (a && b) ≡ b → a ≡ (a || b)
    absorbed true b h = refl
    absorbed false b h = h

    by : (t : Bool) → has_number found x ≡ t → has_number (cond t found (found ++ x ∷ [])) c ≡ (has_number found c || (x == c))
    by false e = has-append found (x ∷ []) c ∙ ap (λ b. has_number found c || b) (or-false (x == c))
    by true e = absorbed (has_number found c) (x == c) (at-same (has_number found) x c ∙ ap (λ b. b && (x == c)) e)

with-floats-has : (found : List ℕ) (hs : List Hypothesis) (c : ℕ) → has_number (with_floats found hs) c ≡ (has_number found c || is_typed hs c)
with-floats-has found [] c = sym (or-false (has_number found c))
with-floats-has found (Float x ∷ hs) c =
    with-floats-has (with_number found x) hs c ∙ ap (λ b. b || is_typed hs c) (with-number-has found x c ∙ ap (λ b. has_number found c || b) (turn x c)) ∙ or_assoc (has_number found c) (c == x) (is_typed hs c)
with-floats-has found (Essential p ∷ hs) c = with-floats-has found hs c

-- a number is one of the variables exactly if it is that of a `$f`
pub floats-typed : (hs : List Hypothesis) (c : ℕ) → has_number (float_variables hs) c ≡ is_typed hs c
floats-typed hs c = with-floats-has [] hs c

pub with-number-once : (found : List ℕ) (x : ℕ) → IsEachOnce found → IsEachOnce (with_number found x)
with-number-once found x once = by (has_number found x) refl
  where
    by : (t : Bool) → has_number found x ≡ t → IsEachOnce (cond t found (found ++ x ∷ []))
    by true e = once
    by false e = once-push found x once e

drop-next : {A : Type 0} (xs : List A) (n : ℕ) (x : A) → slice_get xs n ≡ Some x → drop n xs ≡ x ∷ drop (n + 1) xs
drop-next {A = A} xs n x h = let one : suc n ≡ n + 1 = omega arith in at xs n h ∙ ap (λ m. x ∷ drop m xs) one
  where
    at : (ys : List A) (m : ℕ) → slice_get ys m ≡ Some x → drop m ys ≡ x ∷ drop (suc m) ys
    at [] m h = cc
    at (y ∷ ys) zero h = let same : y ≡ x = cc in rw same refl
    at (y ∷ ys) (suc m) h = at ys m h

-- the next hypothesis is a `$f`
pub floats-next : (hs : List Hypothesis) (n x : ℕ) (found : List ℕ) (h : Hypothesis) → slice_get hs n ≡ Some h → h ≡ Float x → with_floats (with_number found x) (drop (n + 1) hs) ≡ with_floats found (drop n hs)
floats-next hs n x found h at is = sym (ap (with_floats found) (drop-next hs n (Float x) (at ∙ ap Some is)))

-- the next hypothesis is none
pub floats-skip : (hs : List Hypothesis) (n : ℕ) (found : List ℕ) (h : Hypothesis) → slice_get hs n ≡ Some h → ((x : ℕ) → h ≡ Float x → ⊥) → with_floats found (drop (n + 1) hs) ≡ with_floats found (drop n hs)
floats-skip hs n found (Float x) at none = absurd (none x refl)
floats-skip hs n found (Essential p) at none = sym (ap (with_floats found) (drop-next hs n (Essential p) at))

-- ---- one list for each variable

pub pair-lists-length : {A : Type 0} (p : A → A → Bool) (before xs : List A) → length (pair_lists p before xs) ≡ length xs
pair-lists-length p before [] = refl
pair-lists-length p before (x ∷ xs) = ap suc (pair-lists-length p (before ++ x ∷ []) xs)

pub pair-lists-at : (p : ℕ → ℕ → Bool) (before xs : List ℕ) (k x : ℕ) → slice_get xs k ≡ Some x → slice_get (pair_lists p before xs) k ≡ Some (x ∷ filter (p x) (before ++ take k xs))
pair-lists-at p before [] k x h = cc
pair-lists-at p before (y ∷ xs) zero x h = let same : y ≡ x = cc in rw (same, append-nil before) refl
pair-lists-at p before (y ∷ xs) (suc k) x h = pair-lists-at p (before ++ y ∷ []) xs k x h ∙ ap (λ l. Some (x ∷ filter (p x) l)) (append_assoc before (y ∷ []) (take k xs))

filter-same : (n : ℕ) (p q : ℕ → Bool) (xs : List ℕ) → ((y : ℕ) → y < n → p y ≡ q y) → AreBelow n xs → filter p xs ≡ filter q xs
filter-same n p q [] h b = refl
filter-same n p q (x ∷ xs) h b = rw (h x b.0, filter-same n p q xs h b.1) refl

-- relations that agree on the numbers give the same lists
pub pair-lists-same : (n : ℕ) (p q : ℕ → ℕ → Bool) (before xs : List ℕ) → ((x y : ℕ) → x < n → y < n → p x y ≡ q x y) → AreBelow n before → AreBelow n xs → pair_lists p before xs ≡ pair_lists q before xs
pair-lists-same n p q before [] h a b = refl
pair-lists-same n p q before (x ∷ xs) h a b =
    ap (λ l. (x ∷ l) ∷ pair_lists p (before ++ x ∷ []) xs) (filter-same n (p x) (q x) before (λ y l. h x y b.0 l) a)
    ∙ ap (λ l. (x ∷ filter (q x) before) ∷ l) (pair-lists-same n p q (before ++ x ∷ []) xs h (below-push n before x a b.0) b.1)

pub filter-below : (n : ℕ) (p : ℕ → Bool) (xs : List ℕ) → AreBelow n xs → AreBelow n (filter p xs)
filter-below n p [] b = tt
filter-below n p (x ∷ xs) b = by (p x) (filter-below n p xs b.1)
  where
    by : (t : Bool) → AreBelow n (filter p xs) → AreBelow n (cond t (x ∷ filter p xs) (filter p xs))
    by true more = (b.0, more)
    by false more = more

pub pair-lists-below : (n : ℕ) (p : ℕ → ℕ → Bool) (before xs : List ℕ) → AreBelow n before → AreBelow n xs → AllBelow n (pair_lists p before xs)
pair-lists-below n p before [] a b = tt
pair-lists-below n p before (x ∷ xs) a b = ((b.0, filter-below n (p x) before a), pair-lists-below n p (before ++ x ∷ []) xs (below-push n before x a b.0) b.1)

all-below-filter : (n : ℕ) (p : List ℕ → Bool) (lists : List (List ℕ)) → AllBelow n lists → AllBelow n (filter p lists)
all-below-filter n p [] b = tt
all-below-filter n p (x ∷ xs) b = by (p x) (all-below-filter n p xs b.1)
  where
    by : (t : Bool) → AllBelow n (filter p xs) → AllBelow n (cond t (x ∷ filter p xs) (filter p xs))
    by true more = (b.0, more)
    by false more = more

pub pairs-below : (n : ℕ) (p : ℕ → ℕ → Bool) (variables : List ℕ) → AreBelow n variables → AllBelow n (pairs_by p variables)
pairs-below n p variables b = all-below-filter n has_two_or_more_items (pair_lists p [] variables) (pair-lists-below n p [] variables tt b)

-- ---- the others in another order

reordered-two : (l m : List ℕ) → IsReordered l m → has_two_or_more_items m ≡ has_two_or_more_items l
reordered-two (x ∷ []) (y ∷ []) h = refl
reordered-two (x ∷ []) (y ∷ z ∷ ys) h = absurd (true≢false (sym (ap (λ b. b || has_number ys z) (own z)) ∙ h.1.each z))
reordered-two (x ∷ w ∷ xs) (y ∷ []) h = absurd (true≢false (sym (ap (λ b. b || has_number xs w) (own w)) ∙ sym (h.1.each w)))
reordered-two (x ∷ w ∷ xs) (y ∷ z ∷ ys) h = refl
reordered-two l m h = absurd h

reordered-push : (a b : List (List ℕ)) (l m : List ℕ) → AreReordered a b → IsReordered l m → AreReordered (a ++ l ∷ []) (b ++ m ∷ [])
reordered-push [] [] l m all one = (one, tt)
reordered-push (x ∷ a) (y ∷ b) l m all one = (all.0, reordered-push a b l m all.1 one)
reordered-push a b l m all one = absurd all

-- one more list is kept if it has two or more numbers
pub reordered-more : (a b : List (List ℕ)) (l m : List ℕ) → AreReordered (filter has_two_or_more_items a) b → IsReordered l m → AreReordered (filter has_two_or_more_items (a ++ l ∷ [])) (with_list m b)
reordered-more a b l m all one =
    rw (filter-append has_two_or_more_items a (l ∷ []), reordered-two l m one) (by (has_two_or_more_items l))
  where
    by : (t : Bool) → AreReordered (filter has_two_or_more_items a ++ cond t (l ∷ []) []) (cond t (b ++ m ∷ []) b)
    by true = reordered-push (filter has_two_or_more_items a) b l m all one
    by false = rw (append-nil (filter has_two_or_more_items a)) all

pub list-below : (n : ℕ) (l m : List ℕ) → IsReordered l m → AreBelow n l → AreBelow n m
list-below n (c ∷ l) (d ∷ m) h k = (let same = h.0 in let less = k.0 in omega (arith, same, less), below-each n m (λ e has. each-below n l e k.1 (sym (h.1.each e) ∙ has)))
list-below n l m h k = absurd h

pub reordered-below : (n : ℕ) (a b : List (List ℕ)) → AreReordered a b → AllBelow n a → AllBelow n b
reordered-below n [] [] all low = tt
reordered-below n (x ∷ a) (y ∷ b) all low = (list-below n x y all.0 low.0, reordered-below n a b all.1 low.1)
reordered-below n a b all low = absurd all

-- ---- names in place of numbers

pub filter-named : (names : List Name) (p : Name → Bool) (xs : List ℕ) → decode names (filter (λ y. p (name_at names y)) xs) ≡ filter p (decode names xs)
filter-named names p [] = refl
filter-named names p (x ∷ xs) = by (p (name_at names x)) (filter-named names p xs)
  where
    by : (t : Bool) → decode names (filter (λ y. p (name_at names y)) xs) ≡ filter p (decode names xs)
        → decode names (cond t (x ∷ filter (λ y. p (name_at names y)) xs) (filter (λ y. p (name_at names y)) xs)) ≡ cond t (name_at names x ∷ filter p (decode names xs)) (filter p (decode names xs))
    by true more = ap (λ l. name_at names x ∷ l) more
    by false more = more

pub pair-lists-named : (v : Numbered) (before xs : List ℕ) → map (decode v.names) (pair_lists (is_numbered_pair v) before xs) ≡ pair_lists (is_pair v.statements) (decode v.names before) (decode v.names xs)
pair-lists-named v before [] = refl
pair-lists-named v before (x ∷ xs) =
    ap (λ l. (name_at v.names x ∷ l) ∷ map (decode v.names) (pair_lists (is_numbered_pair v) (before ++ x ∷ []) xs)) (filter-named v.names (is_pair v.statements (name_at v.names x)) before)
    ∙ ap (λ l. (name_at v.names x ∷ filter (is_pair v.statements (name_at v.names x)) (decode v.names before)) ∷ l)
    (pair-lists-named v (before ++ x ∷ []) xs ∙ ap (λ b. pair_lists (is_pair v.statements) b (decode v.names xs)) (map-append (name_at v.names) before (x ∷ [])))

-- ---- the list of one variable is made

-- a number is pushed that is not on the stack, or an allocation fails
pub pushed-once : {T E : Type 0} (r : Result T E) (old new : List ℕ) (c : ℕ) → has_number old c ≡ false → OnOk r (new ≡ old ++ c ∷ []) → OnErr r (new ≡ old) → IsEachOnce old → IsEachOnce new
pushed-once (Ok x) old new c none ok err once = subst IsEachOnce (sym ok) (once-push old c once none)
pushed-once (Err x) old new c none ok err once = subst IsEachOnce (sym err) once

joined : (o b t e : Bool) → ((o || (b && t)) || (b && e)) ≡ (o || (b && (t || e)))
joined o b t e = grind arith

-- one more symbol is read: it is added if it is one of the variables before
pub adds-more : (before symbols old list : List ℕ) (n : ℕ) → n < length symbols → AddsBefore before (take n symbols) old list
    → AddsBefore before (take (n + 1) symbols) old (cond (has_number before (get_or symbols n 0)) (with_number list (get_or symbols n 0)) list)
adds-more before symbols old list n low adds = record {
  more = adds.more ++ tail;
  whole = longer ∙ (ap (λ l. l ++ tail) adds.whole ∙ append_assoc old adds.more tail);
  each = λ c. (
      has c ∙ (ap (λ b. b || (has_number before x && (x == c))) (adds.each c)
      ∙ (ap (λ b. (has_number old c || (has_number before c && has_number (take n symbols) c)) || b) (sym (at-same (has_number before) x c))
      ∙ (joined (has_number old c) (has_number before c) (has_number (take n symbols) c) (x == c)
      ∙ ap (λ t. has_number old c || (has_number before c && t)) (sym (list_any_more (λ d. d == c) symbols n 0 low))))));
  once = λ once. elim (has_number before x) as (λ b. IsEachOnce (cond b (with_number list x) list)) [ true ↦ with-number-once list x (adds.once once) | false ↦ adds.once once ];
}
  where
    x : ℕ
    x = get_or symbols n 0

    tail : List ℕ
    tail = cond (has_number before x) (cond (has_number list x) [] (x ∷ [])) []

    longer : cond (has_number before x) (with_number list x) list ≡ list ++ tail
    longer = elim (has_number before x) as (λ b. cond b (with_number list x) list ≡ list ++ cond b (cond (has_number list x) [] (x ∷ [])) []) [
      | true ↦ elim (has_number list x) as (λ b. cond b list (list ++ x ∷ []) ≡ list ++ cond b [] (x ∷ [])) [ true ↦ sym (append-nil list) | false ↦ refl ]
      | false ↦ sym (append-nil list)
    ]

    has : (c : ℕ) → has_number (cond (has_number before x) (with_number list x) list) c ≡ (has_number list c || (has_number before x && (x == c)))
    has c = elim (has_number before x) as (λ b. has_number (cond b (with_number list x) list) c ≡ (has_number list c || (b && (x == c)))) [ true ↦ with-number-has list x c | false ↦ sym (or-false (has_number list c)) ]

-- the list found so far, which begins with the variable, and what the rest of the `$d` would add
pub record IsFound (before : List ℕ) (variable : ℕ) (all rest : List (List ℕ)) (list : List ℕ) : Type 0 where
  pub others : List ℕ
  pub is : list ≡ variable ∷ others
  pub each : (c : ℕ) → (has_number list c || (has_number before c && list_any (λ l. has_number l c) rest)) ≡ ((variable == c) || (has_number before c && list_any (λ l. has_number l c) all))
  pub once : IsEachOnce list

any-lists : (c : ℕ) (lists : List (List ℕ)) → list_any (λ l. has_number l c) lists ≡ list_any (λ l. list_any (λ d. c == d) l) lists
any-lists c [] = refl
any-lists c (l ∷ lists) = ap (λ b. b || list_any (λ m. has_number m c) lists) (sym (has-turn l c)) ∙ ap (λ b. list_any (λ d. c == d) l || b) (any-lists c lists)

pub filter-has : (p : ℕ → Bool) (xs : List ℕ) (c : ℕ) → has_number (filter p xs) c ≡ (p c && has_number xs c)
filter-has p xs c = any-filter_same (λ d. d == c) p (p c) (λ d e. let same : d ≡ c = grind (arith, e) in ap p same) xs

-- two tests with a third are the same if they are where the third holds
guarded : (b p q : Bool) → (b ≡ true → p ≡ q) → (p && b) ≡ (q && b)
guarded true p q h = ap (λ t. t && true) (h refl)
guarded false p q h = and-false p ∙ sym (and-false q)

-- when all `$d` are read, the list is that of the variable
pub found-end : (v : Numbered) (variables : List ℕ) (index variable : ℕ) (all rest : List (List ℕ)) (list : List ℕ) → slice_get variables index ≡ Some variable → AreBelow (length v.names) variables
    → ((y : ℕ) → y < length v.names → is_numbered_pair v variable y ≡ (not (variable == y) && list_any (λ l. list_any (λ d. y == d) l) all))
    → rest ≡ [] → IsFound (take index variables) variable all rest list → IsPairList v variables index list
found-end v variables index variable all rest list stands low pairs none f = record {
  whole = variable ∷ filter (is_numbered_pair v variable) (take index variables);
  stands = pair-lists-at (is_numbered_pair v) [] variables index variable stands;
  reordered = subst (IsReordered (variable ∷ filter (is_numbered_pair v variable) (take index variables))) (sym f.is) (refl, record { each = each; once = others-once.1 });
}
  where
    before : List ℕ
    before = take index variables

    others-once : IsEachOnce (variable ∷ f.others)
    others-once = subst IsEachOnce f.is f.once

    row : ℕ → Bool
    row c = list_any (λ l. list_any (λ d. c == d) l) all

    listed : (c : ℕ) → ((variable == c) || has_number f.others c) ≡ ((variable == c) || (has_number before c && row c))
    listed c =
        ap (λ l. has_number l c) (sym f.is)
        ∙ (sym (ap (λ b. has_number list c || b) (and-false (has_number before c)) ∙ or-false (has_number list c))
        ∙ (ap (λ r. has_number list c || (has_number before c && list_any (λ l. has_number l c) r)) (sym none) ∙ (f.each c ∙ ap (λ r. (variable == c) || (has_number before c && r)) (any-lists c all))))

    found : (c : ℕ) → has_number f.others c ≡ ((not (variable == c) && row c) && has_number before c)
    found c = elim (cases_Bool (variable == c)) [
      | inl same ↦ let is : variable ≡ c = grind (arith, same) in ap (has_number f.others) (sym is) ∙ (others-once.0 ∙ sym (ap (λ s. (not s && row c) && has_number before c) same))
      | inr other ↦
          let direct : has_number f.others c ≡ (has_number before c && row c) = rw other at (listed c) in
          direct ∙ (and_comm (has_number before c) (row c) ∙ sym (ap (λ s. (not s && row c) && has_number before c) other))
    ]

    each : (c : ℕ) → has_number f.others c ≡ has_number (filter (is_numbered_pair v variable) before) c
    each c =
        found c
        ∙ (sym (guarded (has_number before c) (is_numbered_pair v variable c) (not (variable == c) && row c) (λ e. pairs c (each-below (length v.names) before c (below-take (length v.names) index variables low) e)))
        ∙ sym (filter-has (is_numbered_pair v variable) before c))

get-has : (xs : List ℕ) (j c : ℕ) → slice_get xs j ≡ Some c → has_number xs c ≡ true
get-has [] j c h = cc
get-has (x ∷ xs) zero c h = let same : x ≡ c = cc in rw same (ap (λ b. b || has_number xs c) (own c))
get-has (x ∷ xs) (suc j) c h = or_right (x == c) (has_number xs c) (get-has xs j c h)

-- a number is in the first numbers of a list that has each once exactly if its index is low
pub index-tells : (xs : List ℕ) (k j c : ℕ) → IsEachOnce xs → slice_get xs j ≡ Some c → has_number (take k xs) c ≡ nat_lt j k
index-tells [] k j c once h = cc
index-tells (x ∷ xs) zero j c once h = sym (below-zero j)
  where
    below-zero : (j : ℕ) → nat_lt j 0 ≡ false
    below-zero j = grind arith
index-tells (x ∷ xs) (suc k) zero c once h = let same : x ≡ c = cc in rw same (ap (λ b. b || has_number (take k xs) c) (own c) ∙ sym (zero-below k))
  where
    zero-below : (k : ℕ) → nat_lt 0 (suc k) ≡ true
    zero-below k = grind arith
index-tells (x ∷ xs) (suc k) (suc j) c once h =
    let other : (x == c) ≡ false = false_from_ne_true (x == c) (λ e. let same : x ≡ c = grind (arith, e) in true≢false (sym (get-has xs j c h) ∙ (ap (has_number xs) (sym same) ∙ once.0))) in
    ap (λ b. b || has_number (take k xs) c) other ∙ index-tells xs k j c once.1 h ∙ both-less j k
  where
    both-less : (j k : ℕ) → nat_lt j k ≡ nat_lt (suc j) (suc k)
    both-less j k = grind arith

pub take-has : (xs : List ℕ) (k c : ℕ) → has_number xs c ≡ false → has_number (take k xs) c ≡ false
take-has xs zero c h = refl
take-has [] (suc k) c h = refl
take-has (x ∷ xs) (suc k) c h = let p = or_parts (x == c) (has_number xs c) h in or_from (x == c) (has_number (take k xs) c) p.0 (take-has xs k c p.1)

-- ---- the lists are appended

pub record AreAdded (p : ℕ → ℕ → Bool) (variables : List ℕ) (n : ℕ) (made : List (List ℕ)) : Type 0 where
  pub so_far : AreReordered (filter has_two_or_more_items (take n (pair_lists p [] variables))) made

pub added-none : (p : ℕ → ℕ → Bool) (variables : List ℕ) (made : List (List ℕ)) → made ≡ [] → AreAdded p variables 0 made
added-none p variables made none = record { so_far = rw none tt }

pub added-more : (v : Numbered) (variables : List ℕ) (n : ℕ) (made : List (List ℕ)) (list : List ℕ) → AreAdded (is_numbered_pair v) variables n made → IsPairList v variables n list → AreAdded (is_numbered_pair v) variables (n + 1) (with_list list made)
added-more v variables n made list so is = record {
  so_far =
      let L = pair_lists (is_numbered_pair v) [] variables in
      let one : n + 1 ≡ suc n = omega arith in
      subst (λ l. AreReordered (filter has_two_or_more_items l) (with_list list made)) (sym (ap (λ m. take m L) one ∙ take-one L n is.whole is.stands)) (reordered-more (take n (pair_lists (is_numbered_pair v) [] variables)) made is.whole list so.so_far is.reordered);
}

pub added-all : (p : ℕ → ℕ → Bool) (variables : List ℕ) (n : ℕ) (made : List (List ℕ)) → length variables ≤ n → AreAdded p variables n made → AreReordered (pairs_by p variables) made
added-all p variables n made enough so = subst (λ l. AreReordered (filter has_two_or_more_items l) made) (take_all n (pair_lists p [] variables) (omega (arith, enough, pair-lists-length p [] variables))) so.so_far
