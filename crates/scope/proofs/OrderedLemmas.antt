-- Sorted words: equal words are neighbours, so all words differ exactly if each differs from the
-- one before it.
use Rattle.scope.proofs.Words.{◌≡◌, ◌∙◌, refl, sym, ap, subst, arith, Bool, ℕ, ◌+◌, ◌-◌, ◌<◌, ◌≤◌, true, false, not, ◌&&◌, ◌||◌, true≢false, List, [], ◌∷◌, length, get_or, map, Bor, IsPermutation, IsSorted, Ordering, Less, Equal, Greater, is_lt, is_eq, nat_cmp, slice_cmp, on_texts, AllByRecursion, eq_by_cmp, ordering_reverse, IsPermutation-sym, IsDistinct-IsPermutation, IsDistinct-from_sorted, apart_from_distinct, sorted_from_all_adjacent, is_eq-slice_cmp, Name, name_eq, has_name, name_eq-comm, all_different, DifferFromNext, HasEqualNeighbours}
use Rattle.std.specs.List.{IsDistinct}
use Rattle.std.specs.List.Sorted.{IsStrictlySortedBy}

-- the order of words
abbrev pub order : Bor Name → Bor Name → Ordering
order x y = slice_cmp nat_cmp x.now y.now

-- the names of words
abbrev pub names_of : List (Bor Name) → List Name
names_of = map (λ w. w.now)

-- a word that differs from each of some words is not among their names
none-of : (w : Bor Name) (ws : List (Bor Name)) → AllByRecursion (λ y. eq_by_cmp order w y ≡ false) ws → has_name w.now (names_of ws) ≡ false
none-of w [] h = refl
none-of w (x ∷ ws) h = ap (λ b. b || has_name w.now (names_of ws)) (sym (is_eq-slice_cmp w.now x.now) ∙ h.0) ∙ none-of w ws h.1

-- words that are distinct in the order have distinct names
different-from_distinct : (ws : List (Bor Name)) → IsDistinct (eq_by_cmp order) ws → all_different (names_of ws) ≡ true
unfolding IsDistinct
different-from_distinct [] d = refl
different-from_distinct (w ∷ ws) d = ap (λ b. not b && all_different (names_of ws)) (none-of w ws d.0) ∙ different-from_distinct ws d.1

-- a word whose name is not among those of some words differs from each of them
apart-from_none : (w : Bor Name) (ws : List (Bor Name)) → has_name w.now (names_of ws) ≡ false → AllByRecursion (λ y. eq_by_cmp order w y ≡ false) ws
apart-from_none w [] h = tt
apart-from_none w (x ∷ ws) h = by (name_eq w.now x.now) refl h (apart-from_none w ws)
  where
    by : (b : Bool) → name_eq w.now x.now ≡ b → (b || has_name w.now (names_of ws)) ≡ false → (has_name w.now (names_of ws) ≡ false → AllByRecursion (λ y. eq_by_cmp order w y ≡ false) ws)
        → AllByRecursion (λ y. eq_by_cmp order w y ≡ false) (x ∷ ws)
    by true e q rest = absurd (true≢false q)
    by false e q rest = (is_eq-slice_cmp w.now x.now ∙ e, rest q)

-- words with distinct names are distinct in the order
distinct-from_different : (ws : List (Bor Name)) → all_different (names_of ws) ≡ true → IsDistinct (eq_by_cmp order) ws
unfolding IsDistinct
distinct-from_different [] d = tt
distinct-from_different (w ∷ ws) d = by (has_name w.now (names_of ws)) refl d (distinct-from_different ws)
  where
    by : (b : Bool) → has_name w.now (names_of ws) ≡ b → (not b && all_different (names_of ws)) ≡ true → (all_different (names_of ws) ≡ true → IsDistinct (eq_by_cmp order) ws) → IsDistinct (eq_by_cmp order) (w ∷ ws)
    by true e q rest = absurd (true≢false (sym q))
    by false e q rest = (apart-from_none w ws e, rest q)

-- two words are equal in the order whichever comes first
flips : (x y : Bor Name) → eq_by_cmp order x y ≡ eq_by_cmp order y x
flips x y = is_eq-slice_cmp x.now y.now ∙ (name_eq-comm x.now y.now ∙ sym (is_eq-slice_cmp y.now x.now))

-- an order that is neither less nor equal is less in reverse
rises : (r : Ordering) (s : Ordering) → s ≡ ordering_reverse r → is_lt r ≡ false → is_eq s ≡ false → s ≡ Less
rises Less s e l d = absurd (true≢false l)
rises Equal s e l d = absurd (true≢false (sym (ap is_eq e) ∙ d))
rises Greater s e l d = e

-- sorted words all differ if none equals the one before it
differ-in_order : (ws os : List (Bor Name)) → IsPermutation ws os → IsSorted order os → DifferFromNext os (length os) → all_different (names_of ws) ≡ true
unfolding IsStrictlySortedBy
differ-in_order ws [] moved sorted differ = different-from_distinct ws (IsDistinct-IsPermutation (eq_by_cmp order) flips [] ws (IsPermutation-sym ws [] moved) (IsDistinct-from_sorted order [] tt))
differ-in_order ws (o ∷ os) moved sorted differ =
    let total = on_texts (λ (w : Bor Name). w.now) in
    let up = sorted_from_all_adjacent total (o ∷ os) o (λ k within.
    let x = get_or (o ∷ os) k o in
    let y = get_or (o ∷ os) (k + 1) o in
    rises (order y x) (order x y) (total.antisymm x y) (sorted k o (omega arith) within) (is_eq-slice_cmp x.now y.now ∙ differ k o within)) in
    different-from_distinct ws (IsDistinct-IsPermutation (eq_by_cmp order) flips (o ∷ os) ws (IsPermutation-sym ws (o ∷ os) moved) (IsDistinct-from_sorted order (o ∷ os) up))

-- if a sorted word equals the one before it, the words do not all differ
same-in_order : (ws os : List (Bor Name)) → IsPermutation ws os → HasEqualNeighbours os → all_different (names_of ws) ≡ false
same-in_order ws os moved twice = by (all_different (names_of ws)) refl
  where
    by : (b : Bool) → all_different (names_of ws) ≡ b → b ≡ false
    by true e =
        let distinct = IsDistinct-IsPermutation (eq_by_cmp order) flips ws os moved (distinct-from_different ws e) in
        let within = twice.within in
        sym twice.same ∙ (sym (is_eq-slice_cmp (get_or os twice.place twice.other).now (get_or os (twice.place + 1) twice.other).now) ∙ apart_from_distinct (eq_by_cmp order) os twice.place (twice.place + 1) twice.other distinct (omega arith) within)
    by false e = refl

-- comparing neighbours of the sorted words decides whether all words differ
pub differ-told : (words : List Name) (ws os : List (Bor Name)) (told : Bool) → names_of ws ≡ words → IsPermutation ws os → IsSorted order os → (told ≡ true → DifferFromNext os (length os)) → (told ≡ false → HasEqualNeighbours os)
    → told ≡ all_different words
differ-told words ws os true is moved sorted differ twice = sym (ap all_different (sym is) ∙ differ-in_order ws os moved sorted (differ refl))
differ-told words ws os false is moved sorted differ twice = sym (ap all_different (sym is) ∙ same-in_order ws os moved (twice refl))

-- a word that equals the one before it, given by its own place
pub twice-at : (ws : List (Bor Name)) (i : ℕ) (d : Bor Name) → 1 ≤ i → i < length ws → true ≡ name_eq (get_or ws (i - 1) d).now (get_or ws i d).now → HasEqualNeighbours ws
twice-at ws i d one within e = record {
  place = i - 1;
  other = d;
  within = omega (arith, one, within);
  same = subst (λ k. name_eq (get_or ws (i - 1) d).now (get_or ws k d).now ≡ true) {x = i} {y = i - 1 + 1} (omega (arith, one)) (sym e);
}
