-- The variables of images, as an image is read, and what reading counts.
use Rattle.std.proofs.lemmas.Bool.{ne_eqb}
use Rattle.std.proofs.lemmas.List.{take_more}
use Rattle.std.proofs.lemmas.List.Concat.{flat_map-append, length-flat_map}
use Rattle.std.proofs.lemmas.List.Elements.{filter-append}
use Rattle.std.proofs.lemmas.List.Folds.{list_any-append}
use Rattle.std.proofs.lemmas.List.Sums.{sum_by-append}
use Rattle.std.proofs.lemmas.Map.Made.{lookup-map_values}
use Rattle.std.specs.Option.{option_map}
use Rattle.frame.specs.MandatoryPairs.{has_number as is_met}
use Rattle.frame.proofs.NewNumberLemmas.{new-append}
use Rattle.frame.proofs.PairListLemmas.{turn}
use Rattle.subst.proofs.Members.{has_number, has-new}
use Rattle.subst.proofs.ImageRangesLemmas.{inside-more}
use Rattle.subst.proofs.SymbolRangeLemmas.{seen-last, seen-more}
use Rattle.subst.proofs.Words.{◌≡◌, ℕ, ◌+◌, ◌-◌, ◌<◌, ◌==◌, ◌||◌, ◌&&◌, Bool, true, false, not, true≢false, cond, is_some, nat_eq, List, [], ◌∷◌, ◌++◌, length, take, drop, drop-cons, add-one, filter, flat_map, get_or, Some, None, Option, refl, lookup, sym, ◌∙◌, ap, subst, arith, inl, inr, cases_Bool, cases_eq, eqb-true, append-nil, append_assoc, and_parts, or_right, length-append, list_any, AreBelow, AreInside, Numbered, CodeImages, code_image, SymbolRange, symbols_in, AreLists, Extends, HasCountedImages, HasListsInside, HasListsOf, IsListOf, VariableLists, StampedSymbols, has_symbol, image_variables, images_length, is_numbered_variable, new_numbers, numbered_variables, numbers_but, other_variables, compared_variables, listed_beside, list_all, length-drop, length-take-le, numbered_row, read_after, read_images, sum_by, HasCounted, HasRead, HasReadOnly, IsPastList, is_over}

-- ---- the variables among symbols

has-filter : (p : ℕ → Bool) (xs : List ℕ) (u : ℕ) → has_number (filter p xs) u ≡ (has_number xs u && p u)
has-filter p [] u = refl
has-filter p (x ∷ xs) u = elim (cases_Bool (p x)) [
  | inl h ↦ rw h (ap (λ b. (u == x) || b) (has-filter p xs u) ∙ kept (u == x) (has_number xs u) (p u) (λ e. ap p (eqb-true u x e) ∙ h))
  | inr h ↦ rw h (has-filter p xs u ∙ left_out (u == x) (has_number xs u) (p u) (λ e. ap p (eqb-true u x e) ∙ h))
]
  where
    kept : (e q w : Bool) → (e ≡ true → w ≡ true) → (e || (q && w)) ≡ ((e || q) && w)
    kept true q true h = refl
    kept true q false h = sym (h refl)
    kept false q w h = refl

    left_out : (e q w : Bool) → (e ≡ true → w ≡ false) → (q && w) ≡ ((e || q) && w)
    left_out true true w h = refl
    left_out true false w h = sym (h refl)
    left_out false q w h = refl

pub variables-each : (v : Numbered) (symbols : List ℕ) (u : ℕ) → has_number (numbered_variables v symbols) u ≡ (has_number symbols u && is_numbered_variable v u)
variables-each v symbols u = has-filter (is_numbered_variable v) (new_numbers [] symbols) u ∙ ap (λ b. b && is_numbered_variable v u) (has-new symbols u)

-- ---- the first n symbols were read

-- these numbers were met, and the variables among the others are still to be appended
pub record AreRead (v : Numbered) (symbols : List ℕ) (n : ℕ) (old new : List ℕ) (met : StampedSymbols) : Type 0 where
  pub numbers : List ℕ
  pub met_first : (u : ℕ) → has_symbol met u ≡ is_met numbers u
  pub rest : new ++ filter (is_numbered_variable v) (new_numbers numbers (drop n symbols)) ≡ old ++ numbered_variables v symbols

pub read-none : (v : Numbered) (symbols old : List ℕ) (met : StampedSymbols) → ((u : ℕ) → has_symbol met u ≡ false) → AreRead v symbols 0 old old met
read-none v symbols old met none = record { numbers = []; met_first = none; rest = refl }

module _ (v : Numbered) (symbols : List ℕ) (n : ℕ) (old new : List ℕ) (met : StampedSymbols) (low : n < length symbols) (first : AreRead v symbols n old new met) where
  abbrev symbol : ℕ
  symbol = get_or symbols n 0

  abbrev rest_after : List ℕ → List ℕ
  rest_after list = filter (is_numbered_variable v) (new_numbers first.numbers list)

  next : drop n symbols ≡ symbol ∷ drop (n + 1) symbols
  next = rw (add-one, drop-cons symbols n 0) refl

  whole : new ++ rest_after (symbol ∷ drop (n + 1) symbols) ≡ old ++ numbered_variables v symbols
  whole = ap (λ l. new ++ rest_after l) (sym next) ∙ first.rest

  -- the rest, if symbol was not met
  rest-new : has_symbol met symbol ≡ false → new ++ filter (is_numbered_variable v) (symbol ∷ new_numbers (symbol ∷ first.numbers) (drop (n + 1) symbols)) ≡ old ++ numbered_variables v symbols
  rest-new none =
      ap (λ b. new ++ filter (is_numbered_variable v) (cond b (new_numbers first.numbers (drop (n + 1) symbols)) (symbol ∷ new_numbers (symbol ∷ first.numbers) (drop (n + 1) symbols)))) (sym none ∙ first.met_first symbol) ∙ whole

  module _ (now : StampedSymbols) (adds : (u : ℕ) → has_symbol now u ≡ ((u == symbol) || has_symbol met u)) (none : has_symbol met symbol ≡ false) where
    abbrev left : List ℕ
    left = filter (is_numbered_variable v) (new_numbers (symbol ∷ first.numbers) (drop (n + 1) symbols))

    met-more : (u : ℕ) → has_symbol now u ≡ is_met (symbol ∷ first.numbers) u
    met-more u = adds u ∙ (ap (λ b. b || has_symbol met u) (turn u symbol) ∙ ap (λ b. (symbol == u) || b) (first.met_first u))

    pub read-variable : is_numbered_variable v symbol ≡ true → AreRead v symbols (n + 1) old (new ++ symbol ∷ []) now
    read-variable var = record {
      numbers = symbol ∷ first.numbers;
      met_first = met-more;
      rest = append_assoc new (symbol ∷ []) left ∙ (ap (λ b. new ++ cond b (symbol ∷ left) left) (sym var) ∙ rest-new none);
    }

    pub read-constant : is_numbered_variable v symbol ≡ false → AreRead v symbols (n + 1) old new now
    read-constant constant = record {
      numbers = symbol ∷ first.numbers;
      met_first = met-more;
      rest = ap (λ b. new ++ cond b (symbol ∷ left) left) (sym constant) ∙ rest-new none;
    }

-- ---- the ranges of the lists

pub extends-both : (xs ys zs : List ℕ) → Extends xs ys → Extends ys zs → Extends xs zs
extends-both xs ys zs a b = record { more = a.more ++ b.more; whole = b.whole ∙ (ap (λ l. l ++ b.more) a.whole ∙ append_assoc xs a.more b.more) }

pub listed-last : (v : Numbered) (image old new : List ℕ) (r : SymbolRange) → new ≡ old ++ numbered_variables v image → r.start ≡ length old → r.end ≡ length new → IsListOf v new image r
listed-last v image old new r whole low high =
    let size = ap length whole in
    let sum = length-append old (numbered_variables v image) in record {
      low = omega (arith, low, high, size, sum);
      high = omega (arith, high);
      lists = seen-last old (numbered_variables v image) new r whole low high;
    }

pub listed-more : (v : Numbered) (image old new : List ℕ) (r : SymbolRange) → Extends old new → IsListOf v old image r → IsListOf v new image r
listed-more v image old new r e h =
    let within = h.high in
    let size = ap length e.whole in
    let sum = length-append old e.more in record {
      low = h.low;
      high = omega (arith, within, size, sum);
      lists = ap (λ xs. symbols_in xs r) e.whole ∙ (seen-more old e.more r h.low within ∙ h.lists);
    }

pub lists-set : (v : Numbered) (σ : CodeImages) (a b : VariableLists) (x : ℕ) (r : SymbolRange) → AreLists v σ a → Extends a.variables.items b.variables.items
    → ((y : ℕ) → lookup (nat_eq y) b.lists ≡ cond (y == x) (Some r) (lookup (nat_eq y) a.lists)) → IsListOf v b.variables.items (code_image σ x) r → AreLists v σ b
lists-set v σ a b x r are extends set own = record {
  each = λ y q e. elim (cases_eq y x) [
    | inl same ↦
        let now : (y == x) ≡ true = grind (arith, same) in
        let is : r ≡ q = by_true (sym (set y ∙ ap (λ t. cond t (Some r) (lookup (nat_eq y) a.lists)) now) ∙ e) in
        subst (λ z. IsListOf v b.variables.items (code_image σ z) q) (sym same) (subst (IsListOf v b.variables.items (code_image σ x)) is own)
    | inr other ↦
        listed-more v (code_image σ y) a.variables.items b.variables.items q extends
        (are.each y q (sym (set y ∙ ap (λ t. cond t (Some r) (lookup (nat_eq y) a.lists)) (ne_eqb y x other)) ∙ e))
  ];
}
  where
    by_true : {q : SymbolRange} → Some r ≡ Some q → r ≡ q
    by_true e = cc

-- ---- bounds

pub below-from : (n : ℕ) (list : List ℕ) → ((u : ℕ) → has_number list u ≡ true → u < n) → AreBelow n list
below-from n [] h = tt
below-from n (x ∷ list) h =
    let own : (x == x) ≡ true = grind arith in
    (h x (ap (λ b. b || has_number list x) own), below-from n list (λ u p. h u (or_right (u == x) (has_number list u) p)))

pub below-has : (n : ℕ) (list : List ℕ) (u : ℕ) → AreBelow n list → has_number list u ≡ true → u < n
below-has n [] u b h = absurd (true≢false (sym h))
below-has n (x ∷ list) u b h = elim (cases_eq u x) [
  | inl same ↦ let low = b.0 in omega (arith, same, low)
  | inr other ↦ below-has n list u b.1 (ap (λ t. t || has_number list u) (sym (ne_eqb u x other)) ∙ h)
]

-- each list is within the variables
pub lists-inside : (v : Numbered) (σ : CodeImages) (a : VariableLists) → AreLists v σ a → HasListsInside a
lists-inside v σ a are = record { each = λ x r e. let h = are.each x r e in (h.low, h.high) }

pub inside-extends : (a b : VariableLists) → b.lists ≡ a.lists → Extends a.variables.items b.variables.items → HasListsInside a → HasListsInside b
inside-extends a b same e h =
    let size = ap length e.whole in
    let sum = length-append a.variables.items e.more in
    subst (AreInside (length b.variables.items)) (sym same) (inside-more (length a.variables.items) (length b.variables.items) a.lists (omega (arith, size, sum)) h)

pub variables-below : (v : Numbered) (n : ℕ) (symbols : List ℕ) → AreBelow n symbols → AreBelow n (numbered_variables v symbols)
variables-below v n symbols below =
    below-from n (numbered_variables v symbols) (λ u h. below-has n symbols u below (and_parts (has_number symbols u) (is_numbered_variable v u) (sym (variables-each v symbols u) ∙ h)).0)

-- ---- what reading counts

pub counted-append : (σ : CodeImages) (xs ys : List ℕ) (a b c : VariableLists) → HasCountedImages σ xs a b → HasCountedImages σ ys b c → HasCountedImages σ (xs ++ ys) a c
counted-append σ xs ys a b c one two = record {
  read = λ read h. subst (λ l. HasListsOf l c) (append_assoc read (new_numbers read xs) (new_numbers (read_after read xs) ys) ∙ sym (ap (λ l. read ++ l) (new-append read xs ys))) (two.read (read_after read xs) (one.read read h));
  work = λ read h.
      let first = one.work read h in
      let second = two.work (read_after read xs) (one.read read h) in
      let sum = sum_by-append (λ x. length (code_image σ x)) (new_numbers read xs) (new_numbers (read_after read xs) ys) in
      let whole = ap (images_length σ) (new-append read xs ys) in
      omega (arith, first, second, sum, whole);
}

-- nothing was read
pub counted-none : (σ : CodeImages) (a b : VariableLists) → b.lists ≡ a.lists → b.work ≡ a.work → HasCountedImages σ [] a b
counted-none σ a b lists work = record {
  read = λ read h. record { each = λ x. ap (λ ps. is_some (lookup (nat_eq x) ps)) lists ∙ (h.each x ∙ ap (λ l. is_met l x) (sym (append-nil read))) };
  work = λ read h. omega (arith, work);
}

-- the image of x was read before
pub counted-again : (σ : CodeImages) (x : ℕ) (r : SymbolRange) (a : VariableLists) → lookup (nat_eq x) a.lists ≡ Some r → HasCountedImages σ (x ∷ []) a a
counted-again σ x r a found = record {
  read = λ read h. subst (λ l. HasListsOf (read ++ l) a) (sym (none read h)) (subst (λ l. HasListsOf l a) (sym (append-nil read)) h);
  work = λ read h. let e = ap (images_length σ) (none read h) in omega (arith, e);
}
  where
    none : (read : List ℕ) → HasListsOf read a → new_numbers read (x ∷ []) ≡ []
    none read h = rw (sym (h.each x) ∙ ap is_some found) refl

-- the image of x was read
pub counted-new : (σ : CodeImages) (x : ℕ) (r : SymbolRange) (a b : VariableLists) → lookup (nat_eq x) a.lists ≡ None → ((y : ℕ) → lookup (nat_eq y) b.lists ≡ cond (y == x) (Some r) (lookup (nat_eq y) a.lists)) → b.work ≡ a.work + length (code_image σ x)
    → HasCountedImages σ (x ∷ []) a b
counted-new σ x r a b unknown set work = record {
  read = λ read h. subst (λ l. HasListsOf (read ++ l) b) (sym (own read h)) (record {
    each = λ y.
        ap is_some (set y)
        ∙ (either (y == x) (lookup (nat_eq y) a.lists)
        ∙ (ap (λ b. b || (y == x)) (h.each y) ∙ (ap (λ b. is_met read y || b) (turn y x ∙ or-false (x == y)) ∙ sym (list_any-append (λ n. n == y) read (x ∷ [])))));
  });
  work = λ read h. let e = ap (images_length σ) (own read h) in omega (arith, work, e);
}
  where
    own : (read : List ℕ) → HasListsOf read a → new_numbers read (x ∷ []) ≡ x ∷ []
    own read h = rw (sym (h.each x) ∙ ap is_some unknown) refl

    or-false : (b : Bool) → b ≡ (b || false)
    or-false true = refl
    or-false false = refl

    either : (e : Bool) (o : Option SymbolRange) → is_some (cond e (Some r) o) ≡ (is_some o || e)
    either true None = refl
    either true (Some q) = refl
    either false None = refl
    either false (Some q) = refl

-- ---- the variables of the images of the others

module _ (v : Numbered) (σ : CodeImages) (x : ℕ) where
  pub others-each : (numbers : List ℕ) (w : ℕ) → has_number (other_variables v σ x numbers) w ≡ (list_any (λ y. not (x == y) && has_number (code_image σ y) w) numbers && is_numbered_variable v w)
  others-each [] w = refl
  others-each (y ∷ numbers) w = elim (cases_Bool (x == y)) [
    | inl same ↦ rw same (others-each numbers w)
    | inr other ↦ rw other (
        list_any-append (λ c. w == c) (image_variables v σ y) (other_variables v σ x numbers)
        ∙ (ap (λ b. b || has_number (other_variables v σ x numbers) w) (variables-each v (code_image σ y) w)
        ∙ (ap (λ b. (has_number (code_image σ y) w && is_numbered_variable v w) || b) (others-each numbers w)
        ∙ both-or (has_number (code_image σ y) w) (list_any (λ y. not (x == y) && has_number (code_image σ y) w) numbers) (is_numbered_variable v w)))
        )
  ]
    where
      both-or : (p q w : Bool) → ((p && w) || (q && w)) ≡ ((p || q) && w)
      both-or true true true = refl
      both-or true true false = refl
      both-or true false true = refl
      both-or true false false = refl
      both-or false q w = refl

  others-next : (numbers : List ℕ) (n : ℕ) → n < length numbers → other_variables v σ x (take (n + 1) numbers) ≡ other_variables v σ x (take n numbers) ++ other_variables v σ x (get_or numbers n 0 ∷ [])
  others-next numbers n low =
      ap (other_variables v σ x) (take_more numbers n 0 low)
      ∙ (ap (flat_map (image_variables v σ)) (filter-append (λ y. not (x == y)) (take n numbers) (get_or numbers n 0 ∷ []))
      ∙ flat_map-append (image_variables v σ) (numbers_but x (take n numbers)) (numbers_but x (get_or numbers n 0 ∷ [])))

  pub others-own : (numbers : List ℕ) (n : ℕ) → n < length numbers → get_or numbers n 0 ≡ x → other_variables v σ x (take n numbers) ≡ other_variables v σ x (take (n + 1) numbers)
  others-own numbers n low same =
      let own : (x == get_or numbers n 0) ≡ true = grind (arith, same) in
      sym (others-next numbers n low ∙ rw own (append-nil (other_variables v σ x (take n numbers))))

  pub others-more : (numbers : List ℕ) (n : ℕ) → n < length numbers → (get_or numbers n 0 ≡ x → ⊥) → other_variables v σ x (take n numbers) ++ image_variables v σ (get_or numbers n 0) ≡ other_variables v σ x (take (n + 1) numbers)
  others-more numbers n low other =
      sym (others-next numbers n low ∙ rw (ne_eqb x (get_or numbers n 0) (λ e. other (sym e))) (ap (λ l. other_variables v σ x (take n numbers) ++ l) (append-nil (image_variables v σ (get_or numbers n 0)))))

-- ---- the variables that are compared

-- an image whose range is empty has no variable
pub none-listed : (v : Numbered) (variables image : List ℕ) (r : SymbolRange) → IsListOf v variables image r → r.start ≡ r.end → (others : List ℕ) → listed_beside (numbered_variables v image) others ≡ []
none-listed v variables image r is same others =
    let none : r.end - r.start ≡ 0 = omega (arith, same) in
    ap (λ own. listed_beside own others) (sym is.lists ∙ ap (λ n. take n (drop r.start variables)) none)

pub some-listed : (v : Numbered) (variables image : List ℕ) (r : SymbolRange) → IsListOf v variables image r → (r.start ≡ r.end → ⊥) → (others : List ℕ) → listed_beside (numbered_variables v image) others ≡ others
some-listed v variables image r is other others = by (numbered_variables v image) refl
  where
    by : (own : List ℕ) → numbered_variables v image ≡ own → listed_beside own others ≡ others
    by (u ∷ own) e = refl
    by [] e =
        let size = ap length (is.lists ∙ e) in
        let rest = length-drop r.start variables in
        let low = is.low in
        let high = is.high in
        let taken = length-take-le (r.end - r.start) (drop r.start variables) (omega (arith, rest, low, high)) in
        absurd (other (omega (arith, size, taken, low)))

module _ (v : Numbered) (σ : CodeImages) (x : ℕ) (numbers : List ℕ) (n : ℕ) where
  -- one more image is read
  pub counted-next : (a b c : VariableLists) → n < length numbers → HasCountedImages σ (x ∷ take n numbers) a b → HasCountedImages σ (get_or numbers n 0 ∷ []) b c → HasCountedImages σ (x ∷ take (n + 1) numbers) a c
  counted-next a b c low one two = subst (λ l. HasCountedImages σ (x ∷ l) a c) (sym (take_more numbers n 0 low)) (counted-append σ (x ∷ take n numbers) (get_or numbers n 0 ∷ []) a b c one two)

  pub compared-none : (variables : List ℕ) (r : SymbolRange) → IsListOf v variables (code_image σ x) r → r.start ≡ r.end → compared_variables v σ x (take n numbers) ≡ compared_variables v σ x (take (n + 1) numbers)
  compared-none variables r is same =
      none-listed v variables (code_image σ x) r is same (other_variables v σ x (take n numbers)) ∙ sym (none-listed v variables (code_image σ x) r is same (other_variables v σ x (take (n + 1) numbers)))

  pub compared-own : n < length numbers → get_or numbers n 0 ≡ x → compared_variables v σ x (take n numbers) ≡ compared_variables v σ x (take (n + 1) numbers)
  compared-own low same = ap (listed_beside (image_variables v σ x)) (others-own v σ x numbers n low same)

  pub compared-more : (variables : List ℕ) (r : SymbolRange) → IsListOf v variables (code_image σ x) r → (r.start ≡ r.end → ⊥) → n < length numbers → (get_or numbers n 0 ≡ x → ⊥)
      → compared_variables v σ x (take n numbers) ++ image_variables v σ (get_or numbers n 0) ≡ compared_variables v σ x (take (n + 1) numbers)
  compared-more variables r is some low other =
      ap (λ l. l ++ image_variables v σ (get_or numbers n 0)) (some-listed v variables (code_image σ x) r is some (other_variables v σ x (take n numbers)))
      ∙ (others-more v σ x numbers n low other ∙ sym (some-listed v variables (code_image σ x) r is some (other_variables v σ x (take (n + 1) numbers))))

-- only if the first list has variables are there others that count
beside-sum : (f : ℕ → ℕ) (own more : List ℕ) → sum_by (λ u. f u + length (listed_beside own more)) own ≡ sum_by (λ u. f u + length more) own
beside-sum f [] more = refl
beside-sum f (u ∷ own) more = refl

pub beside-all : (p : ℕ → ℕ → Bool) (own more : List ℕ) → list_all (λ u. list_all (p u) (listed_beside own more)) own ≡ list_all (λ u. list_all (p u) more) own
beside-all p [] more = refl
beside-all p (u ∷ own) more = refl

pub beside-below : (n : ℕ) (own more : List ℕ) → AreBelow n more → AreBelow n (listed_beside own more)
beside-below n [] more below = tt
beside-below n (u ∷ own) more below = below

-- ---- what contracts see of the images

module _ (left : Option ℕ) where
  -- the images that were read are lists of their variables
  pub lists-from_view : (v : Numbered) (σ : CodeImages) (a : VariableLists) → HasListsInside a → HasReadOnly v σ (read_images left a) → AreLists v σ a
  lists-from_view v σ a inside only = record {
    each = λ x r found.
        let at = inside.each x r found in record {
          low = at.0;
          high = at.1;
          lists = only.each x (symbols_in a.variables.items r) (lookup-map_values (symbols_in a.variables.items) (nat_eq x) a.lists ∙ ap (option_map (symbols_in a.variables.items)) found);
        };
  }

  pub view-from_lists : (v : Numbered) (σ : CodeImages) (a : VariableLists) → AreLists v σ a → HasReadOnly v σ (read_images left a)
  view-from_lists v σ a are = record {
    each = λ x variables found. by x variables (lookup (nat_eq x) a.lists) refl (sym (lookup-map_values (symbols_in a.variables.items) (nat_eq x) a.lists) ∙ found);
  }
    where
      by : (x : ℕ) (variables : List ℕ) (o : Option SymbolRange) → lookup (nat_eq x) a.lists ≡ o → option_map (symbols_in a.variables.items) o ≡ Some variables → variables ≡ image_variables v σ x
      by x variables None is e = cc
      by x variables (Some r) is e = let same : symbols_in a.variables.items r ≡ variables = cc in sym same ∙ (are.each x r is).lists

  seen : (a : VariableLists) (x : ℕ) → is_some (lookup (nat_eq x) (read_images left a).images) ≡ is_some (lookup (nat_eq x) a.lists)
  seen a x = ap is_some (lookup-map_values (symbols_in a.variables.items) (nat_eq x) a.lists) ∙ by (lookup (nat_eq x) a.lists)
    where
      by : (o : Option SymbolRange) → is_some (option_map (symbols_in a.variables.items) o) ≡ is_some o
      by None = refl
      by (Some r) = refl

  pub lists_of-from_view : (read : List ℕ) (a : VariableLists) → HasRead read (read_images left a) → HasListsOf read a
  lists_of-from_view read a h = record { each = λ x. sym (seen a x) ∙ h.each x }

  pub view-from_lists_of : (read : List ℕ) (a : VariableLists) → HasListsOf read a → HasRead read (read_images left a)
  view-from_lists_of read a h = record { each = λ x. seen a x ∙ h.each x }

  -- images were read, and then their variables compared
  pub counted-list : (v : Numbered) (σ : CodeImages) (x : ℕ) (others : List ℕ) (a b c : VariableLists) → HasCountedImages σ (x ∷ others) a b → c.lists ≡ b.lists
      → c.work ≡ b.work + sum_by (λ u. numbered_row v u + length (compared_variables v σ x others)) (image_variables v σ x) → HasCounted v σ (x ∷ others) (read_images left a) (read_images left c)
  counted-list v σ x others a b c images same work = record {
    read = λ read h.
        view-from_lists_of (read_after read (x ∷ others)) c (record {
          each = λ y. ap (λ ps. is_some (lookup (nat_eq y) ps)) same ∙ (images.read read (lists_of-from_view read a h)).each y;
        });
    work = λ read h.
        let first = images.work read (lists_of-from_view read a h) in
        let size = ap (λ n. sum_by (λ u. numbered_row v u + n) (image_variables v σ x)) (length-flat_map (image_variables v σ) (numbers_but x others)) in
        let compared = beside-sum (numbered_row v) (image_variables v σ x) (other_variables v σ x others) in
        omega (arith, work, first, size, compared);
  }

  -- images were read, and then the work was past the limit with the variables that are compared
  pub past-list : (v : Numbered) (σ : CodeImages) (x : ℕ) (others : List ℕ) (a b : VariableLists) → HasCountedImages σ (x ∷ others) a b
      → is_over left (b.work + sum_by (λ u. numbered_row v u + length (compared_variables v σ x others)) (image_variables v σ x)) ≡ true → IsPastList v σ (x ∷ others) (read_images left a)
  past-list v σ x others a b images past = λ read h.
      let more = sum_by (λ u. numbered_row v u + length (compared_variables v σ x others)) (image_variables v σ x) in
      let c : VariableLists = record b { work = b.work + more } in
      subst (λ n. is_over left n ≡ true) ((counted-list v σ x others a b c images refl refl).work read h) past
