-- Greedy matching: the first match of a segment leaves the most for the parts after the next `$*`.
use Rattle.finding.proofs.PatternPrelude.{◌≡◌, ℕ, suc, ◌+◌, ◌-◌, ◌<◌, ◌≤◌, Bool, true, false, ◌&&◌, List, [], ◌∷◌, length, map, take, drop, get_or, ltb, refl, ap, sym, ◌∙◌, subst, arith, Some, None, drop_of_length-le, drop-cons, and_parts, and_from, both_ways, ltb-true, ltb-false, drop-drop, drop-map, length-drop, length-map, length-take-le, get_or-map, Name, Part, Symbol, AnySymbol, AnySequence, is_any_sequence, segment_len, matches_symbol, matches_prefix, IsFirstMatch}

-- the symbols begin with what the parts match, where `$*` matches any number of symbols
abbrev pub Begins : List Part → List Name → Type 0
Begins [] e = Unit {0}
Begins (Symbol s ∷ p) e = (matches_prefix (Symbol s ∷ []) e ≡ true) × Begins p (drop 1 e)
Begins (AnySymbol ∷ p) e = (matches_prefix (AnySymbol ∷ []) e ≡ true) × Begins p (drop 1 e)
Begins (AnySequence ∷ p) e = (k : ℕ) × (k ≤ length e) × Begins p (drop k e)

-- the symbols from some index on begin so
abbrev pub IsSomewhere : List Part → List Name → Type 0
IsSomewhere p e = (k : ℕ) × (k ≤ length e) × Begins p (drop k e)

-- ---- a segment

-- no segment is longer than the pattern
pub segment_within : (p : List Part) → segment_len p ≤ length p
segment_within [] = omega arith
segment_within (Symbol s ∷ p) = omega (arith, segment_within p)
segment_within (AnySymbol ∷ p) = omega (arith, segment_within p)
segment_within (AnySequence ∷ p) = omega arith

-- the symbols that a segment matches are at least as many as its parts
pub begins_len : (p : List Part) (e : List Name) → matches_prefix p e ≡ true → length p ≤ length e
begins_len [] e h = omega arith
begins_len (q ∷ p) [] h = absurd (both_ways false refl h)
begins_len (q ∷ p) (x ∷ e) h = let rest = begins_len p e (and_parts (matches_symbol q x) (matches_prefix p e) h).1 in omega (arith, rest)

-- a segment is followed by a `$*`, or by nothing
pub others_many : (p : List Part) (q : Part) (next : List Part) → drop (segment_len p) p ≡ q ∷ next → drop (segment_len p) p ≡ AnySequence ∷ next
others_many [] q next e = absurd (none_is e)
  where
    none_is : [] ≡ q ∷ next → ⊥
    none_is bad = cc
others_many (Symbol s ∷ p) q next e = others_many p q next e
others_many (AnySymbol ∷ p) q next e = others_many p q next e
others_many (AnySequence ∷ p) q next e = let same : p ≡ next = cc in ap (λ r. AnySequence ∷ r) same

-- a segment matches, and the rest of the pattern matches what follows
abbrev Cut : List Part → ℕ → List Name → Type 0
Cut p n e = (matches_prefix (take n p) e ≡ true) × Begins (drop n p) (drop n e)

module _ (q : Part) (p : List Part) (n : ℕ) where
  -- one more part in front of a segment
  cut_more : (e : List Name) → matches_prefix (q ∷ []) e ≡ true → Cut p n (drop 1 e) → (matches_prefix (q ∷ take n p) e ≡ true) × Begins (drop n p) (drop (suc n) e)
  cut_more [] h r = absurd (both_ways false refl h)
  cut_more (x ∷ e) h r = (and_from (matches_symbol q x) (matches_prefix (take n p) e) (and_parts (matches_symbol q x) true h).0 r.0, r.1)

  -- a segment without its first part
  cut_less : (e : List Name) → matches_prefix (q ∷ take n p) e ≡ true → Begins (drop n p) (drop (suc n) e) → (matches_prefix (q ∷ []) e ≡ true) × Cut p n (drop 1 e)
  cut_less [] h r = absurd (both_ways false refl h)
  cut_less (x ∷ e) h r =
      let parts : (matches_symbol q x ≡ true) × (matches_prefix (take n p) e ≡ true) = and_parts (matches_symbol q x) (matches_prefix (take n p) e) h in
      (and_from (matches_symbol q x) true parts.0 refl, (parts.1, r))

-- if the symbols begin with what the parts match, the first segment matches, and then the rest ..
pub cut_of : (p : List Part) (e : List Name) → Begins p e → Cut p (segment_len p) e
cut_of [] e b = (refl, tt)
cut_of (Symbol s ∷ p) e b = cut_more (Symbol s) p (segment_len p) e b.0 (cut_of p (drop 1 e) b.1)
cut_of (AnySymbol ∷ p) e b = cut_more AnySymbol p (segment_len p) e b.0 (cut_of p (drop 1 e) b.1)
cut_of (AnySequence ∷ p) e b = (refl, b)

-- .. and conversely
pub of_cut : (p : List Part) (e : List Name) → matches_prefix (take (segment_len p) p) e ≡ true → Begins (drop (segment_len p) p) (drop (segment_len p) e) → Begins p e
of_cut [] e h r = tt
of_cut (Symbol s ∷ p) e h r = let c = cut_less (Symbol s) p (segment_len p) e h r in (c.0, of_cut p (drop 1 e) c.1.0 c.1.1)
of_cut (AnySymbol ∷ p) e h r = let c = cut_less AnySymbol p (segment_len p) e h r in (c.0, of_cut p (drop 1 e) c.1.0 c.1.1)
of_cut (AnySequence ∷ p) e h r = r

-- ---- the first match of a segment

module _ (p : List Part) (e : List Name) where
  -- if the first segment matches nowhere, neither does the pattern
  pub nowhere : IsFirstMatch (take (segment_len p) p) e None → IsSomewhere p e → ⊥
  nowhere none there = both_ways _ (none there.0 there.1) (cut_of p (drop there.0 e) there.2).0

  module _ (i : ℕ) (first : IsFirstMatch (take (segment_len p) p) e (Some i)) where
    -- if the first segment is also the last one, and matches, the pattern matches
    pub last_here : drop (segment_len p) p ≡ [] → IsSomewhere p e
    last_here none = (i, first.0, of_cut p (drop i e) first.1 (subst (λ r. Begins r (drop (segment_len p) (drop i e))) (sym none) tt))

    -- the symbols that the segment matches are all within the expression
    pub room_after : i + segment_len p ≤ length e
    room_after =
        let few = begins_len (take (segment_len p) p) (drop i e) first.1 in
        let count = length-take-le (segment_len p) p (segment_within p) in
        let rest = length-drop i e in
        let within : i ≤ length e = first.0 in
        omega arith

    module _ (next : List Part) (others : drop (segment_len p) p ≡ AnySequence ∷ next) where
      -- if symbols begin with what the rest of the pattern matches, the parts after its `$*` match
      -- somewhere in them
      pub rest_begins : (r : List Name) → Begins (drop (segment_len p) p) r → IsSomewhere next r
      rest_begins r b = subst (λ o. Begins o r) others b

      -- if the pattern matches somewhere, the parts after the `$*` match after the first match of
      -- the first segment ..
      pub goes_on : IsSomewhere p e → IsSomewhere next (drop (i + segment_len p) e)
      goes_on (k, within, begins) =
          let cut : Cut p (segment_len p) (drop k e) = cut_of p (drop k e) begins in
          let on : IsSomewhere next (drop (segment_len p) (drop k e)) = rest_begins _ cut.1 in
          let later : i ≤ k = not_before k cut.0 (ltb k i) refl in
          let few = begins_len (take (segment_len p) p) (drop k e) cut.0 in
          let count = length-take-le (segment_len p) p (segment_within p) in
          let left = length-drop k e in
          let left_on = length-drop (segment_len p) (drop k e) in
          let left_here = length-drop (i + segment_len p) e in
          let inside : on.0 ≤ length (drop (segment_len p) (drop k e)) = on.1 in
          let far : (k - i) + on.0 ≤ length (drop (i + segment_len p) e) = omega arith in
          let there : drop on.0 (drop (segment_len p) (drop k e)) ≡ drop (k + (segment_len p + on.0)) e
          = drop-drop on.0 (segment_len p) (drop k e) ∙ drop-drop (segment_len p + on.0) k e in
          let here : drop ((k - i) + on.0) (drop (i + segment_len p) e) ≡ drop ((i + segment_len p) + ((k - i) + on.0)) e
          = drop-drop ((k - i) + on.0) (i + segment_len p) e in
          let same : k + (segment_len p + on.0) ≡ (i + segment_len p) + ((k - i) + on.0) = omega arith in
          ((k - i) + on.0, far, subst (Begins next) (there ∙ (ap (λ m. drop m e) same ∙ sym here)) on.2)
        where
          not_before : (k : ℕ) → matches_prefix (take (segment_len p) p) (drop k e) ≡ true → (b : Bool) → ltb k i ≡ b → i ≤ k
          not_before k h true t = absurd (both_ways _ (first.2 k (ltb-true k i t)) h)
          not_before k h false t = ltb-false k i t

      -- .. and conversely
      pub comes_from : IsSomewhere next (drop (i + segment_len p) e) → IsSomewhere p e
      comes_from there =
          let rest : IsSomewhere next (drop (segment_len p) (drop i e)) = subst (IsSomewhere next) (sym (drop-drop (segment_len p) i e)) there in
          (i, first.0, of_cut p (drop i e) first.1 (subst (λ o. Begins o (drop (segment_len p) (drop i e))) (sym others) rest))

-- ---- the loops

-- the pattern matches somewhere exactly if the rest of it matches somewhere in the rest of the
-- symbols
pub record GoesOn (p left : List Part) (e rest : List Name) : Type 0 where
  pub on : IsSomewhere p e → IsSomewhere left rest
  pub back : IsSomewhere left rest → IsSomewhere p e

pub goes_on_none : (p : List Part) (e : List Name) → GoesOn p p e e
goes_on_none p e = record { on = λ s. s; back = λ s. s }

module _ (p : List Part) (e : List Name) (from at : ℕ) (goes : GoesOn p (drop from p) e (drop at e)) where
  -- a segment that matches nowhere
  pub none_found : (segment : List Part) → segment ≡ take (segment_len (drop from p)) (drop from p) → IsFirstMatch segment (drop at e) None → IsSomewhere p e → ⊥
  none_found segment same none there = nowhere (drop from p) (drop at e) (subst (λ s. IsFirstMatch s (drop at e) None) same none) (goes.on there)

  module _ (index : ℕ) (segment : List Part) (same : segment ≡ take (segment_len (drop from p)) (drop from p)) (first : IsFirstMatch segment (drop at e) (Some index)) where
    here : IsFirstMatch (take (segment_len (drop from p)) (drop from p)) (drop at e) (Some index)
    here = subst (λ s. IsFirstMatch s (drop at e) (Some index)) same first

    -- the last segment
    pub all_found : length (drop from p) ≤ segment_len (drop from p) → IsSomewhere p e
    all_found whole = goes.back (last_here (drop from p) (drop at e) index here (drop_of_length-le (drop from p) whole))

    -- the symbols that a segment matches are all within those left
    pub room_left : at + (index + segment_len (drop from p)) ≤ at + length (drop at e)
    room_left = let room = room_after (drop from p) (drop at e) index here in omega (arith, room)

    -- a segment that a `$*` follows
    pub goes_past : segment_len (drop from p) < length (drop from p)
        → GoesOn p (drop (from + (segment_len (drop from p) + 1)) p) e (drop (at + (index + segment_len (drop from p))) e)
    goes_past more =
        let left : List Part = drop from p in
        let n : ℕ = segment_len left in
        let next : List Part = drop (suc n) left in
        let others : drop n left ≡ AnySequence ∷ next = others_many left (get_or left n AnySequence) next (drop-cons left n AnySequence more) in
        let after : next ≡ drop (from + (n + 1)) p = drop-drop (suc n) from p ∙ (let m : from + suc n ≡ from + (n + 1) = omega arith in ap (λ k. drop k p) m) in
        let rest : drop (index + n) (drop at e) ≡ drop (at + (index + n)) e = drop-drop (index + n) at e in
        record {
          on = λ there. subst (λ r. IsSomewhere r (drop (at + (index + n)) e)) after (subst (IsSomewhere next) rest (goes_on left (drop at e) index here next others (goes.on there)));
          back = λ there. goes.back (comes_from left (drop at e) index here next others
              (subst (IsSomewhere next) (sym rest) (subst (λ r. IsSomewhere r (drop (at + (index + n)) e)) (sym after) there)));
        }

-- a segment that matches at no index before the end matches nowhere, ..
pub no_index : (p : List Part) (e : List Name) → ((k : ℕ) → k < length e → matches_prefix p (drop k e) ≡ false) → 0 < length p → IsFirstMatch p e None
no_index [] e none some k within = absurd (omega (arith, some))
no_index (q ∷ p) e none some k within = by (ltb k (length e)) refl
  where
    by : (b : Bool) → ltb k (length e) ≡ b → matches_prefix (q ∷ p) (drop k e) ≡ false
    by true t = none k (ltb-true k (length e) t)
    by false t = ap (matches_prefix (q ∷ p)) (drop_of_length-le e (ltb-false k (length e) t))

-- .. but a segment without parts matches at the end
pub end_index : (p : List Part) (e : List Name) → ((k : ℕ) → k < length e → matches_prefix p (drop k e) ≡ false) → length p ≡ 0 → IsFirstMatch p e (Some (length e))
end_index [] e none empty = (omega arith, refl, none)
end_index (q ∷ p) e none empty = absurd (omega (arith, empty))

-- one more part and one more symbol
pub begins_step : (p : List Part) (e : List Name) (i : ℕ) (q : Part) (x : Name) → i < length p → i < length e
    → matches_prefix (drop i p) (drop i e) ≡ (matches_symbol (get_or p i q) (get_or e i x) && matches_prefix (drop (i + 1) p) (drop (i + 1) e))
begins_step p e i q x parts symbols =
    let more : suc i ≡ i + 1 = omega arith in
    ap (λ r. matches_prefix r (drop i e)) (drop-cons p i q parts)
    ∙ (ap (matches_prefix (get_or p i q ∷ drop (suc i) p)) (drop-cons e i x symbols)
    ∙ ap (λ n. matches_symbol (get_or p i q) (get_or e i x) && matches_prefix (drop n p) (drop n e)) more)

-- a segment does not match fewer symbols than it has parts
pub too_few : (p : List Part) (e : List Name) → length e < length p → matches_prefix p e ≡ false
too_few p e few = by (matches_prefix p e) refl
  where
    by : (b : Bool) → matches_prefix p e ≡ b → b ≡ false
    by true h = absurd (let enough = begins_len p e h in omega (arith, enough, few))
    by false h = refl

-- a part that is not `$*` belongs to the segment ..
pub segment_on : (p : List Part) (i : ℕ) (q : Part) → i < length p → is_any_sequence (get_or p i q) ≡ false → segment_len (drop i p) ≡ 1 + segment_len (drop (i + 1) p)
segment_on p i q within other =
    let more : suc i ≡ i + 1 = omega arith in
    ap segment_len (drop-cons p i q within) ∙ (one_on (get_or p i q) (drop (suc i) p) other ∙ ap (λ n. 1 + segment_len (drop n p)) more)
  where
    one_on : (q : Part) (rest : List Part) → is_any_sequence q ≡ false → segment_len (q ∷ rest) ≡ 1 + segment_len rest
    one_on (Symbol s) rest e = omega arith
    one_on AnySymbol rest e = omega arith
    one_on AnySequence rest e = absurd (both_ways true e refl)

-- .. and a `$*` ends the segment
pub segment_end : (p : List Part) (i : ℕ) (q : Part) → i < length p → is_any_sequence (get_or p i q) ≡ true → segment_len (drop i p) ≡ 0
segment_end p i q within many = ap segment_len (drop-cons p i q within) ∙ ends_here (get_or p i q) (drop (suc i) p) many
  where
    ends_here : (q : Part) (rest : List Part) → is_any_sequence q ≡ true → segment_len (q ∷ rest) ≡ 0
    ends_here (Symbol s) rest e = absurd (both_ways false refl e)
    ends_here AnySymbol rest e = absurd (both_ways false refl e)
    ends_here AnySequence rest e = refl

-- at the end of the parts the segment is the whole pattern
pub segment_all : (p : List Part) (i : ℕ) → length p ≤ i → segment_len p ≡ i + segment_len (drop i p) → length p ≡ segment_len p
segment_all p i past is =
    let none : segment_len (drop i p) ≡ 0 = ap segment_len (drop_of_length-le p past) in
    let within = segment_within p in
    omega (arith, none, is, within, past)

-- ---- symbols that are read through references

module _ {R : Type 0} (f : R → Name) (p : List Part) (symbols : List R) (i : ℕ) where
  module _ (q : Part) (r : R) (parts : i < length p) (within : i < length symbols) where
    -- the match from an index on is the match of the part and the symbol there, and of those after
    -- them
    step : matches_prefix (drop i p) (drop i (map f symbols)) ≡ (matches_symbol (get_or p i q) (f (get_or symbols i r)) && matches_prefix (drop (i + 1) p) (drop (i + 1) (map f symbols)))
    step =
        let count = length-map symbols f in
        begins_step p (map f symbols) i q (f r) parts (omega (arith, count, within))
        ∙ ap (λ x. matches_symbol (get_or p i q) x && matches_prefix (drop (i + 1) p) (drop (i + 1) (map f symbols))) (get_or-map f symbols i r (f r) within)

    -- if the part matches the symbol, those after them decide
    pub begins_on : matches_symbol (get_or p i q) (f (get_or symbols i r)) ≡ true
        → matches_prefix (drop i p) (drop i (map f symbols)) ≡ matches_prefix (drop (i + 1) p) (drop (i + 1) (map f symbols))
    begins_on fits = step ∙ ap (λ b. b && matches_prefix (drop (i + 1) p) (drop (i + 1) (map f symbols))) fits

    pub begins_not : matches_symbol (get_or p i q) (f (get_or symbols i r)) ≡ false → matches_prefix (drop i p) (drop i (map f symbols)) ≡ false
    begins_not other = step ∙ ap (λ b. b && matches_prefix (drop (i + 1) p) (drop (i + 1) (map f symbols))) other

  -- the match of the symbols from an index on
  pub begins_at : (rest : List R) (b : Bool) → rest ≡ drop i symbols → matches_prefix p (map f rest) ≡ b → matches_prefix p (drop i (map f symbols)) ≡ b
  begins_at rest b same e = ap (matches_prefix p) (drop-map f i symbols ∙ ap (map f) (sym same)) ∙ e

  -- the first match is at this index
  pub first_here : i < length symbols → matches_prefix p (drop i (map f symbols)) ≡ true → ((k : ℕ) → k < i → matches_prefix p (drop k (map f symbols)) ≡ false)
      → IsFirstMatch p (map f symbols) (Some i)
  first_here within here before = let count = length-map symbols f in (omega (arith, count, within), here, before)

  -- there is no match before the end
  module _ (past : length symbols ≤ i) (none : (k : ℕ) → k < i → matches_prefix p (drop k (map f symbols)) ≡ false) where
    before_end : (k : ℕ) → k < length (map f symbols) → matches_prefix p (drop k (map f symbols)) ≡ false
    before_end k within = let count = length-map symbols f in none k (omega (arith, count, past, within))

    pub none_here : 0 < length p → IsFirstMatch p (map f symbols) None
    none_here some = no_index p (map f symbols) before_end some

    pub end_here : length p ≡ 0 → IsFirstMatch p (map f symbols) (Some (length symbols))
    end_here empty = subst (λ n. IsFirstMatch p (map f symbols) (Some n)) (length-map symbols f) (end_index p (map f symbols) before_end empty)

-- if no part is left, the parts match
pub begins_all : (p : List Part) (i : ℕ) → length p ≤ i → (e : List Name) → matches_prefix (drop i p) e ≡ true
begins_all p i past e = ap (λ r. matches_prefix r e) (drop_of_length-le p past)
