-- Making the parts of an assertion: the steps of the loops.
use Rattle.frame.proofs.Words.{inl, inr, In, Some, slice_get, Kind, Float, AreBelow, AreNumbered, HasTwoSymbolsIfFloat, is_typed_by, hypothesis_by, hypothesis_at, entry_hypothesis, float_variables, list_any-map, sym, ◌∙◌, ap, subst, arith, append_assoc, append-nil, ◌≡◌, ℕ, zero, suc, ◌+◌, ◌-◌, ◌<◌, ◌≤◌, Bool, true, false, cond, List, [], ◌∷◌, ◌++◌, length, map, filter, reverse, get_or, slice_range, refl, recorded_in, filter-append, length-append, map-append, reverse-append, slice_get_within, Stmt, cut, AreSpansIn, range-behind, extends-refl, cut-more, cut-push, spans-push, Entry, symbols_at, has_two_or_more_items, groups_in, AreHypotheses, map_push, BufferPart}
use Rattle.frame.proofs.PairListLemmas.{below-each, floats-typed}
use Rattle.frame.proofs.VariablePlaceLemmas.{any-in}
use Rattle.frame.proofs.FoundByNumber.{numbered-at}

-- ---- the hypotheses, one by one

pub hypothesis-at : (es : List Entry) (ps : List ℕ) (k : ℕ) → AreHypotheses es ps → k < length ps → (1 ≤ get_or ps k 0) × (get_or ps k 0 ≤ length es)
hypothesis-at es [] k h l = absurd (omega (arith, l))
hypothesis-at es (p ∷ ps) zero h l = let above = h.0.1 in let b = slice_get_within es (p - 1) h.0.0 h.0.2 in (above, omega (arith, above, b))
hypothesis-at es (p ∷ ps) (suc k) h l = hypothesis-at es ps k h.1 (omega (arith, l))

-- the number of a `$f` is below n
hyp-low : (n c p : ℕ) (kind : Kind) (codes : List ℕ) → AreBelow n codes → HasTwoSymbolsIfFloat kind codes → is_typed_by c (hypothesis_by p kind codes) ≡ true → c < n
hyp-low n c p Float [] b two h = absurd (omega (arith, two))
hyp-low n c p Float (x ∷ []) b two h = absurd (omega (arith, two))
hyp-low n c p Float (x ∷ y ∷ codes) b two h = let low = b.1.0 in let same : c ≡ y = grind (arith, h) in omega (arith, low, same)
hyp-low n c p kind codes b two h = cc

hyp-entry : (es : List Entry) (ps : List ℕ) (p : ℕ) → AreHypotheses es ps → In p ps → (e : Entry) × (slice_get es (p - 1) ≡ Some e)
hyp-entry es [] p h i = absurd i
hyp-entry es (q ∷ ps) p h (inl e) = (h.0.0, ap (λ r. slice_get es (r - 1)) e ∙ h.0.2)
hyp-entry es (q ∷ ps) p h (inr i) = hyp-entry es ps p h.1 i

-- the variables of hypotheses are numbers of symbols
pub floats-below : (n m : ℕ) (es : List Entry) (ps : List ℕ) → AreNumbered n m es → AreHypotheses es ps → AreBelow n (float_variables (map (hypothesis_at es) ps))
floats-below n m es ps numbered hyps = below-each n (float_variables (map (hypothesis_at es) ps)) (λ c has. (
    let r = any-in (λ p. is_typed_by c (hypothesis_at es p)) ps (list_any-map (hypothesis_at es) (is_typed_by c) ps ∙ (sym (floats-typed (map (hypothesis_at es) ps) c) ∙ has)) in
    let e = hyp-entry es ps r.0 hyps r.1 in
    let k = numbered-at n m es (r.0 - 1) e.0 numbered e.1 in
    hyp-low n c r.0 e.0.kind e.0.symbols k.0 k.1 (ap (λ o. is_typed_by c (entry_hypothesis r.0 o)) (sym e.1) ∙ r.2)))

-- ---- the groups, from the last `$d` back

map-reverse : {X Y : Type 0} (f : X → Y) (xs : List X) → map f (reverse xs) ≡ reverse (map f xs)
map-reverse f [] = refl
map-reverse f (x ∷ xs) =
    ap (map f) (reverse-append (x ∷ []) xs) ∙ map_push f (reverse xs) x ∙ ap (λ l. l ++ f x ∷ []) (map-reverse f xs)
    ∙ sym (reverse-append (f x ∷ []) (map f xs))

has_two_or_more_items-len : {A : Type 0} (xs : List A) → 1 < length xs → has_two_or_more_items xs ≡ true
has_two_or_more_items-len [] h = absurd (omega (arith, h))
has_two_or_more_items-len (x ∷ []) h = absurd (omega (arith, h))
has_two_or_more_items-len (x ∷ y ∷ xs) h = refl

-- the groups found so far, in reverse order, are those of the `$d` visited
abbrev pub AreGroups : List Entry → List ℕ → List (ℕ × Stmt) → List (ℕ × Stmt) → List (List ℕ) → Type 0
AreGroups es vs all rest found = groups_in vs (map (λ q. symbols_at es q.0) all) ≡ groups_in vs (map (λ q. symbols_at es q.0) rest) ++ reverse found

groups-append : (vs : List ℕ) (a b : List (List ℕ)) → groups_in vs (a ++ b) ≡ groups_in vs a ++ groups_in vs b
groups-append vs a b = ap (filter has_two_or_more_items) (map-append (recorded_in vs) a b) ∙ filter-append has_two_or_more_items (map (recorded_in vs) a) (map (recorded_in vs) b)

pub groups-step : (es : List Entry) (vs : List ℕ) (all rest before : List (ℕ × Stmt)) (p : ℕ) (s : Stmt) (found : List (List ℕ)) (codes : List ℕ) → rest ≡ before ++ (p, s) ∷ [] → symbols_at es p ≡ codes
    → AreGroups es vs all rest found → AreGroups es vs all before (cond (has_two_or_more_items (recorded_in vs codes)) (found ++ recorded_in vs codes ∷ []) found)
groups-step es vs all rest before p s found codes e is k =
    k ∙ rw (e, map-append (λ (q : ℕ × Stmt). symbols_at es q.0) before ((p, s) ∷ []), groups-append vs (map (λ q. symbols_at es q.0) before) (symbols_at es p ∷ []), append_assoc, is)
    (ap (λ r. groups_in vs (map (λ q. symbols_at es q.0) before) ++ r) (last (has_two_or_more_items (recorded_in vs codes))))
  where
    last : (t : Bool) → cond t (recorded_in vs codes ∷ []) [] ++ reverse found ≡ reverse (cond t (found ++ recorded_in vs codes ∷ []) found)
    last true = sym (reverse-append found (recorded_in vs codes ∷ []))
    last false = refl

pub groups-start : (es : List Entry) (vs : List ℕ) (all rest : List (ℕ × Stmt)) (found : List (List ℕ)) → found ≡ [] → rest ≡ all → AreGroups es vs all rest found
groups-start es vs all rest found e same = rw (e, same) (sym (append-nil (groups_in vs (map (λ q. symbols_at es q.0) all))))

pub groups-end : (es : List Entry) (vs : List ℕ) (all rest : List (ℕ × Stmt)) (places : List ℕ) (found new : List BufferPart) → AreGroups es vs all rest (cut places found) → rest ≡ [] → new ≡ reverse found
    → cut places new ≡ groups_in vs (map (λ q. symbols_at es q.0) all)
groups-end es vs all rest places found new k z n = rw (k, z, n) (map-reverse (λ (s : BufferPart). slice_range places s.from s.to) found)

-- ---- a group is added

spans-later : (n m : ℕ) (a : List BufferPart) → n ≤ m → AreSpansIn n a → AreSpansIn m a
spans-later n m [] le h = tt
spans-later n m (s ∷ a) le h = let k = h.0.1 in ((h.0.0, omega (arith, k, le)), spans-later n m a le h.1)

pub spans-more : (places more new : List ℕ) (a : List BufferPart) → new ≡ places ++ more → AreSpansIn (length places) a → AreSpansIn (length new) a
spans-more places more new a e h = let l = length-append places more in let m = ap length e in spans-later (length places) (length new) a (omega arith) h

pub group-added : (places new : List ℕ) (a b : List BufferPart) (s : BufferPart) (group : List ℕ) → new ≡ places ++ group → s.from ≡ length places → s.to ≡ length new → s.from + 1 < s.to → AreSpansIn (length places) a
    → b ≡ a ++ s ∷ [] → (cut new b ≡ cond (has_two_or_more_items group) (cut places a ++ group ∷ []) (cut places a)) × AreSpansIn (length new) b
group-added places new a b s group e from to two h k =
    let l = length-append places group in
    let m = ap length e in
    let both : has_two_or_more_items group ≡ true = has_two_or_more_items-len group (omega arith) in
    let here : slice_range new s.from s.to ≡ group = range-behind places group new new s.from s.to from e to (extends-refl new) in
    let before : cut new a ≡ cut places a = ap (λ w. cut w a) e ∙ cut-more places group a h in (
      ap (cut new) k ∙ (cut-push new a s ∙ (ap (λ r. r ++ slice_range new s.from s.to ∷ []) before ∙ (ap (λ g. cut places a ++ g ∷ []) here
          ∙ sym (ap (λ t. cond t (cut places a ++ group ∷ []) (cut places a)) both)))),
      subst (AreSpansIn (length new)) (sym k) (spans-push (length places) (length new) a s (omega arith) h (omega arith) (omega arith)),
    )
