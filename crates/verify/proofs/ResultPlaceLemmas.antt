-- Results as ranges of a buffer that grows.
use Rattle.verify.proofs.Words.{◌≡◌, ℕ, zero, suc, ◌+◌, ◌-◌, ◌<◌, ◌≤◌, List, [], ◌∷◌, ◌++◌, length, map, take, drop, get_or, slice_get, Some, refl, option_map, sym, ◌∙◌, ap, subst, arith, length-append, length-drop, length-map, take-map, drop-map, map_push, take_rest, slice_get-map, slice_get-get_or, SymbolRange, symbols_in, AreWithin, AreInside, map-seen-more, within-weaken, within-snoc, within-take, within-drop, within-get, within-at, seen-get, length-seen, seen-last, inside-more, inside-none, Results, with_result, IsSaved, results_in, AreResultRanges, below, top, weight_limit, take_all, take_more, Bool, true, false, HeldResults, IsKept}

pub map-drop : {A B : Type 0} (f : A → B) (k : ℕ) (xs : List A) → map f (drop k xs) ≡ drop k (map f xs)
map-drop f k xs = sym (drop-map f k xs)

pub results-same : {A : Type 0} (a b c d : List (List A)) (w v : ℕ) → a ≡ b → c ≡ d → w ≡ v → (let x : Results A = record { stack = a; saved = c; weight = w } in x) ≡ (let y : Results A = record { stack = b; saved = d; weight = v } in y)
results-same {A} a b c d w v p q r =
    let f : List (List A) → List (List A) → ℕ → Results A = λ s t n. record { stack = s; saved = t; weight = n } in
    ap (λ s. f s c w) p ∙ (ap (λ t. f b t w) q ∙ ap (λ n. f b d n) r)

-- the ranges stay within the buffer and the limit when the buffer and the weight grow by the same
-- symbols
pub grown-kept : (xs ys zs : List ℕ) (images : List (ℕ × SymbolRange)) (stack saved : List SymbolRange) (w v : ℕ) → AreResultRanges xs images stack saved w → zs ≡ xs ++ ys → v ≡ w + length ys → v ≤ weight_limit → AreResultRanges zs images stack saved v
grown-kept xs ys zs images stack saved w v k e weighs light =
    let longer : length xs ≤ length zs = omega (arith, ap length e, length-append xs ys) in
    let few = k.few in
    record {
      images_inside = inside-more (length xs) (length zs) images longer k.images_inside;
      stack_within = within-weaken (length xs) (length zs) stack longer k.stack_within;
      saved_within = within-weaken (length xs) (length zs) saved longer k.saved_within;
      few = omega (arith, ap length e, length-append xs ys, few, weighs);
      light = light;
    }

-- the range of the appended symbols lies within the buffer
pub new-place : (xs ys zs : List ℕ) (p : SymbolRange) → zs ≡ xs ++ ys → p.start ≡ length xs → p.end ≡ length zs → (p.start ≤ p.end) × (p.end ≤ length zs)
new-place xs ys zs p e low high = (omega (arith, ap length e, length-append xs ys, low, high), omega (arith, high))

-- a range within the buffer is pushed on the stack
pub pushed-kept : (xs : List ℕ) (images : List (ℕ × SymbolRange)) (stack saved stack' : List SymbolRange) (w : ℕ) (p : SymbolRange) → AreResultRanges xs images stack saved w → (p.start ≤ p.end) × (p.end ≤ length xs) → stack' ≡ stack ++ p ∷ []
    → AreResultRanges xs images stack' saved w
pushed-kept xs images stack saved stack' w p k b whole =
    record { images_inside = k.images_inside; stack_within = subst (AreWithin (length xs)) (sym whole) (within-snoc (length xs) stack p k.stack_within b.0 b.1); saved_within = k.saved_within; few = k.few; light = k.light }

pub added-seen : (xs ys zs : List ℕ) (stack rest saved stack' : List SymbolRange) (w v : ℕ) (p : SymbolRange) → AreWithin (length xs) saved → AreWithin (length xs) rest
    → zs ≡ xs ++ ys → p.start ≡ length xs → p.end ≡ length zs → stack' ≡ rest ++ p ∷ [] → v ≡ w + length ys
    → results_in zs stack' saved v ≡ with_result (results_in xs stack saved w) (map (symbols_in xs) rest) ys
added-seen xs ys zs stack rest saved stack' w v p k r e low high whole weighs =
    results-same (map (symbols_in zs) stack') (map (symbols_in xs) rest ++ ys ∷ []) (map (symbols_in zs) saved) (map (symbols_in xs) saved) v (w + length ys)
    (ap (map (symbols_in zs)) whole ∙ (map_push (symbols_in zs) rest p
    ∙ (ap (λ r. r ++ symbols_in zs p ∷ []) (ap (λ s. map (symbols_in s) rest) e ∙ map-seen-more xs ys rest r)
    ∙ ap (λ s. map (symbols_in xs) rest ++ s ∷ []) (seen-last xs ys zs p e low high))))
    (ap (λ s. map (symbols_in s) saved) e ∙ map-seen-more xs ys saved k)
    weighs

-- ---- marks and recalls

pub kept-mark : (xs : List ℕ) (images : List (ℕ × SymbolRange)) (stack saved saved' : List SymbolRange) (w : ℕ) (p : SymbolRange) (k : ℕ) → AreResultRanges xs images stack saved w → slice_get stack k ≡ Some p → saved' ≡ saved ++ p ∷ []
    → AreResultRanges xs images stack saved' w
kept-mark xs images stack saved saved' w p k a h e =
    let b = within-get (length xs) k stack p a.stack_within h in
    record { images_inside = a.images_inside; stack_within = a.stack_within; saved_within = subst (AreWithin (length xs)) (sym e) (within-snoc (length xs) saved p a.saved_within b.0 b.1); few = a.few; light = a.light }

-- a saved range lies within the symbols
pub saved-at : (n k : ℕ) (ps : List SymbolRange) (p d : SymbolRange) → AreWithin n ps → k < length ps → p ≡ get_or ps k d → (p.start ≤ p.end) × (p.end ≤ n)
saved-at n k ps p d w less at = subst (λ q. (q.start ≤ q.end) × (q.end ≤ n)) (sym at) (within-at n k ps d w less)

pub kept-recall : (xs : List ℕ) (images : List (ℕ × SymbolRange)) (stack stack' saved : List SymbolRange) (w v k : ℕ) (p : SymbolRange) → AreResultRanges xs images stack saved w → k < length saved → p ≡ get_or saved k p
    → stack' ≡ stack ++ p ∷ [] → w ≤ v → v ≤ weight_limit → AreResultRanges xs images stack' saved v
kept-recall xs images stack stack' saved w v k p a less at e more light =
    let few = a.few in
    pushed-kept xs images stack saved stack' v p (record { images_inside = a.images_inside; stack_within = a.stack_within; saved_within = a.saved_within; few = omega (arith, few, more); light = light }) (saved-at (length xs) k saved p p a.saved_within less at) e

pub get-map : {A B : Type 0} (f : A → B) (xs : List A) (k : ℕ) (y : B) → slice_get (map f xs) k ≡ Some y → (d : A) → y ≡ f (get_or xs k d)
get-map f [] k y h d = cc
get-map f (x ∷ xs) zero y h d = cc
get-map f (x ∷ xs) (suc k) y h d = get-map f xs k y h d

pub get-map-some : {A B : Type 0} (f : A → B) (xs : List A) (k : ℕ) (d : A) → k < length xs → slice_get (map f xs) k ≡ Some (f (get_or xs k d))
get-map-some f xs k d h = slice_get-map f xs k ∙ ap (option_map f) (slice_get-get_or xs k d h)

-- pushing the saved range at an index recalls the saved result
pub recall-seen : (xs : List ℕ) (stack stack' saved : List SymbolRange) (w v k : ℕ) (d p : SymbolRange) → AreWithin (length xs) saved → k < length saved → p ≡ get_or saved k d
    → stack' ≡ stack ++ p ∷ [] → v ≡ w + (p.end - p.start) → (e : List ℕ) × IsSaved (map (symbols_in xs) saved) (suc k) e × (results_in xs stack' saved v ≡ with_result (results_in xs stack saved w) (map (symbols_in xs) stack) e)
recall-seen xs stack stack' saved w v k d p a less at whole weighs =
    let b = saved-at (length xs) k saved p d a less at in
    let len : length (symbols_in xs p) ≡ p.end - p.start = length-seen xs p b.0 b.1 in (
      symbols_in xs p,
      get-map-some (symbols_in xs) saved k d less ∙ ap (λ q. Some (symbols_in xs q)) (sym at),
      results-same (map (symbols_in xs) stack') (map (symbols_in xs) stack ++ symbols_in xs p ∷ []) (map (symbols_in xs) saved) (map (symbols_in xs) saved) v (w + length (symbols_in xs p))
          (ap (map (symbols_in xs)) whole ∙ map_push (symbols_in xs) stack p) refl (weighs ∙ ap (λ n. w + n) (sym len)),
    )

-- if a saved range is longer than the rest of the limit, its result is too heavy to be recalled
pub recall-heavy : (xs : List ℕ) (saved : List SymbolRange) (w k : ℕ) (d p : SymbolRange) → AreWithin (length xs) saved → w ≤ weight_limit → k < length saved → p ≡ get_or saved k d
    → weight_limit - w < p.end - p.start → (e : List ℕ) → IsSaved (map (symbols_in xs) saved) (suc k) e → weight_limit < w + length e
recall-heavy xs saved w k d p a light less at heavy e h =
    let b = saved-at (length xs) k saved p d a less at in
    let len : length (symbols_in xs p) ≡ p.end - p.start = length-seen xs p b.0 b.1 in
    let same : e ≡ symbols_in xs p = get-map (symbols_in xs) saved k e h d ∙ ap (symbols_in xs) (sym at) in
    omega (arith, ap length same, len, heavy, light)

pub cleared-kept : (xs : List ℕ) (images : List (ℕ × SymbolRange)) (stack saved : List SymbolRange) → xs ≡ [] → images ≡ [] → stack ≡ [] → saved ≡ [] → AreResultRanges xs images stack saved 0
cleared-kept xs images stack saved e i f w = record {
  images_inside = subst (AreInside (length xs)) (sym i) (inside-none (length xs));
  stack_within = subst (AreWithin (length xs)) (sym f) tt;
  saved_within = subst (AreWithin (length xs)) (sym w) tt;
  few = (let l = ap length e in omega (arith, l));
  light = omega arith;
}

-- ---- the last results

-- the last range lies within the buffer
pub range-last : (xs : List ℕ) (stack : List SymbolRange) (p d : SymbolRange) → AreWithin (length xs) stack → 0 < length stack → p ≡ get_or stack (length stack - 1) d
    → (p.start ≤ p.end) × (p.end ≤ length xs) × (map (symbols_in xs) stack ≡ map (symbols_in xs) (take (length stack - 1) stack) ++ symbols_in xs p ∷ [])
range-last xs stack p d within some at =
    let b = saved-at (length xs) (length stack - 1) stack p d within (omega (arith, some)) at in
    let split : stack ≡ take (length stack - 1) stack ++ p ∷ [] = sym (take_all (length stack - 1 + 1) stack (omega (arith, some))) ∙ (take_more stack (length stack - 1) d (omega (arith, some)) ∙ ap (λ q. take (length stack - 1) stack ++ q ∷ []) (sym at)) in
    (b.0, b.1, ap (map (symbols_in xs)) split ∙ map_push (symbols_in xs) (take (length stack - 1) stack) p)

-- results that are kept since others that are equal
pub kept-as : (ok : Bool) (old old' new : HeldResults) → old'.results ≡ old.results → old'.symbols ≡ old.symbols → IsKept ok old' new → IsKept ok old new
kept-as true old old' new r s k = (k.0, k.1 ∙ ap (λ xs. xs ++ k.0) s)
kept-as false old old' new r s k = (k.0 ∙ r, k.1 ∙ s)

-- there are r places of the last r results
pub last-count : {A : Type 0} (k r : ℕ) (s : List A) → r ≤ length s → k ≡ length s - r → length (take (length s - k) (drop k s)) ≡ r
last-count k r s h e = let a = ap length (take_rest s k) in let b = length-drop k s in omega (arith, a, b, h, e)

pub last-seen : (xs : List ℕ) (k r : ℕ) (s : List SymbolRange) → k ≡ length s - r → map (symbols_in xs) (take (length s - k) (drop k s)) ≡ top r (map (symbols_in xs) s)
last-seen xs k r s e =
    ap (map (symbols_in xs)) (take_rest s k) ∙ (map-drop (symbols_in xs) k s
    ∙ ap (λ n. drop n (map (symbols_in xs) s)) (e ∙ ap (λ n. n - r) (sym (length-map s (symbols_in xs)))))

-- the same for a copy of the places
pub seen_eq : (xs : List ℕ) (s e : List SymbolRange) (all : List (List ℕ)) (k r : ℕ) → e ≡ s → map (symbols_in xs) s ≡ all → k ≡ length s - r → map (symbols_in xs) (take (length e - k) (drop k e)) ≡ top r all
seen_eq xs s e all k r q v l = ap (λ w. map (symbols_in xs) (take (length w - k) (drop k w))) q ∙ (last-seen xs k r s l ∙ ap (top r) v)

pub last-within : (n k : ℕ) (s : List SymbolRange) → AreWithin n s → AreWithin n (take (length s - k) (drop k s))
last-within n k s w = within-take n (length s - k) (drop k s) (within-drop n k s w)

-- each of the last r places, in a copy of the places, lies within the buffer and has the symbols of
-- its result
pub seen_place : (xs : List ℕ) (s e : List SymbolRange) (all : List (List ℕ)) (k r i : ℕ) (d : SymbolRange) → e ≡ s → map (symbols_in xs) s ≡ all → k ≡ length s - r → r ≤ length all → i < r → AreWithin (length xs) s
    → (let p : SymbolRange = get_or (take (length e - k) (drop k e)) i d in ((p.start ≤ p.end) × (p.end ≤ length xs)) × (symbols_in xs p ≡ get_or (top r all) i []))
seen_place xs s e all k r i d q v l h less w =
    let places = take (length e - k) (drop k e) in
    let seen : map (symbols_in xs) places ≡ top r all = seen_eq xs s e all k r q v l in
    let there : i < length places = omega (arith, ap length seen, length-map places (symbols_in xs), length-drop (length all - r) all, h, less) in
    let within = subst (λ t. AreWithin (length xs) (take (length t - k) (drop k t))) (sym q) (last-within (length xs) k s w) in
    (within-at (length xs) i places d within there, sym (seen-get xs i places d there) ∙ ap (λ u. get_or u i []) seen)

pub apply-cut : (xs zs ys : List ℕ) (images : List (ℕ × SymbolRange)) (stack saved stack' : List SymbolRange) (w v k : ℕ) → AreResultRanges xs images stack saved w → zs ≡ xs ++ ys → stack' ≡ take k stack
    → v ≡ w + length ys → v ≤ weight_limit → AreResultRanges zs images stack' saved v
apply-cut xs zs ys images stack saved stack' w v k a e cut weighs light =
    let g = grown-kept xs ys zs images stack saved w v a e weighs light in
    record { images_inside = g.images_inside; stack_within = subst (AreWithin (length zs)) (sym cut) (within-take (length zs) k stack g.stack_within); saved_within = g.saved_within; few = g.few; light = light }

pub apply-kept : (xs ys zs : List ℕ) (images : List (ℕ × SymbolRange)) (stack saved stack' : List SymbolRange) (w v k : ℕ) (p : SymbolRange) → AreResultRanges xs images stack saved w
    → zs ≡ xs ++ ys → p.start ≡ length xs → p.end ≡ length zs → stack' ≡ take k stack ++ p ∷ [] → v ≡ w + length ys → v ≤ weight_limit → AreResultRanges zs images stack' saved v
apply-kept xs ys zs images stack saved stack' w v k p a e low high whole weighs light =
    pushed-kept zs images (take k stack) saved stack' v p (apply-cut xs zs ys images stack saved (take k stack) w v k a e refl weighs light) (new-place xs ys zs p e low high) whole

pub apply-seen : (xs ys zs : List ℕ) (images : List (ℕ × SymbolRange)) (stack saved stack' : List SymbolRange) (w v k r : ℕ) (p : SymbolRange) → AreResultRanges xs images stack saved w → k ≡ length stack - r
    → zs ≡ xs ++ ys → p.start ≡ length xs → p.end ≡ length zs → stack' ≡ take k stack ++ p ∷ [] → v ≡ w + length ys
    → results_in zs stack' saved v ≡ with_result (results_in xs stack saved w) (below r (map (symbols_in xs) stack)) ys
apply-seen xs ys zs images stack saved stack' w v k r p a at e low high whole weighs =
    added-seen xs ys zs stack (take k stack) saved stack' w v p a.saved_within (within-take (length xs) k stack a.stack_within) e low high whole weighs
    ∙ ap (λ b. with_result (results_in xs stack saved w) b ys) (sym (take-map (symbols_in xs) k stack) ∙ ap (λ n. take n (map (symbols_in xs) stack)) (at ∙ ap (λ n. n - r) (sym (length-map stack (symbols_in xs)))))

-- other images within the buffer
pub kept-read : (xs : List ℕ) (images images' : List (ℕ × SymbolRange)) (stack saved : List SymbolRange) (w : ℕ) → AreResultRanges xs images stack saved w → AreInside (length xs) images' → AreResultRanges xs images' stack saved w
kept-read xs images images' stack saved w a inside = record { images_inside = inside; stack_within = a.stack_within; saved_within = a.saved_within; few = a.few; light = a.light }
