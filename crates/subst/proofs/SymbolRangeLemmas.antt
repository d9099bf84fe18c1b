-- Ranges of a buffer that grows.
use Rattle.subst.proofs.Words.{◌≡◌, ℕ, zero, suc, ◌-◌, ◌<◌, ◌≤◌, List, [], ◌∷◌, ◌++◌, length, map, take, drop, get_or, slice_get, Some, refl, ◌∙◌, ap, subst, arith, length-append, length-drop, take-append-le, drop-append-le, length-take-le, take_all, drop-append_seam, SymbolRange, symbols_in, AreWithin}

pub seen-more : (xs ys : List ℕ) (p : SymbolRange) → p.start ≤ p.end → p.end ≤ length xs → symbols_in (xs ++ ys) p ≡ symbols_in xs p
seen-more xs ys p low high =
    let le : p.start ≤ length xs = omega (arith, low, high) in
    let len = length-drop p.start xs in
    let fits : p.end - p.start ≤ length (drop p.start xs) = omega (arith, len, low, high) in
    ap (take (p.end - p.start)) (drop-append-le p.start xs ys le) ∙ take-append-le (p.end - p.start) (drop p.start xs) ys fits

pub map-seen-more : (xs ys : List ℕ) (ps : List SymbolRange) → AreWithin (length xs) ps → map (symbols_in (xs ++ ys)) ps ≡ map (symbols_in xs) ps
map-seen-more xs ys [] w = refl
map-seen-more xs ys (p ∷ ps) w = ap (λ r. r ∷ map (symbols_in (xs ++ ys)) ps) (seen-more xs ys p w.0 w.1) ∙ ap (λ r. symbols_in xs p ∷ r) (map-seen-more xs ys ps w.2)

pub within-weaken : (n m : ℕ) (ps : List SymbolRange) → n ≤ m → AreWithin n ps → AreWithin m ps
within-weaken n m [] h w = tt
within-weaken n m (p ∷ ps) h w = (w.0, omega (arith, h, w.1), within-weaken n m ps h w.2)

pub within-snoc : (n : ℕ) (ps : List SymbolRange) (p : SymbolRange) → AreWithin n ps → p.start ≤ p.end → p.end ≤ n → AreWithin n (ps ++ p ∷ [])
within-snoc n [] p w low high = (low, high, tt)
within-snoc n (q ∷ ps) p w low high = (w.0, w.1, within-snoc n ps p w.2 low high)

pub within-take : (n k : ℕ) (ps : List SymbolRange) → AreWithin n ps → AreWithin n (take k ps)
within-take n zero ps w = tt
within-take n (suc k) [] w = tt
within-take n (suc k) (p ∷ ps) w = (w.0, w.1, within-take n k ps w.2)

pub within-drop : (n k : ℕ) (ps : List SymbolRange) → AreWithin n ps → AreWithin n (drop k ps)
within-drop n zero ps w = w
within-drop n (suc k) [] w = tt
within-drop n (suc k) (p ∷ ps) w = within-drop n k ps w.2

pub within-get : (n k : ℕ) (ps : List SymbolRange) (p : SymbolRange) → AreWithin n ps → slice_get ps k ≡ Some p → (p.start ≤ p.end) × (p.end ≤ n)
within-get n k [] p w h = cc
within-get n zero (q ∷ ps) p w h = let e : q ≡ p = cc in subst (λ r. (r.start ≤ r.end) × (r.end ≤ n)) e (w.0, w.1)
within-get n (suc k) (q ∷ ps) p w h = within-get n k ps p w.2 h

pub seen-new : (xs ys : List ℕ) → take (length (xs ++ ys) - length xs) (drop (length xs) (xs ++ ys)) ≡ ys
seen-new xs ys =
    let e = length-append xs ys in
    ap (take (length (xs ++ ys) - length xs)) (drop-append_seam xs ys) ∙ take_all (length (xs ++ ys) - length xs) ys (omega (arith, e))

-- the range of the symbols appended last
pub seen-last : (xs ys zs : List ℕ) (p : SymbolRange) → zs ≡ xs ++ ys → p.start ≡ length xs → p.end ≡ length zs → symbols_in zs p ≡ ys
seen-last xs ys zs p e low high =
    ap (λ s. take (p.end - s) (drop s zs)) low
    ∙ (ap (λ n. take (n - length xs) (drop (length xs) zs)) high
    ∙ (ap (λ s. take (length s - length xs) (drop (length xs) s)) e ∙ seen-new xs ys))

pub within-at : (n k : ℕ) (ps : List SymbolRange) (d : SymbolRange) → AreWithin n ps → k < length ps → let p = get_or ps k d in (p.start ≤ p.end) × (p.end ≤ n)
within-at n k [] d w h = absurd (omega (arith, h))
within-at n zero (p ∷ ps) d w h = (w.0, w.1)
within-at n (suc k) (p ∷ ps) d w h = within-at n k ps d w.2 (omega (arith, h))

pub seen-get : (xs : List ℕ) (k : ℕ) (ps : List SymbolRange) (d : SymbolRange) → k < length ps → get_or (map (symbols_in xs) ps) k [] ≡ symbols_in xs (get_or ps k d)
seen-get xs k [] d h = absurd (omega (arith, h))
seen-get xs zero (p ∷ ps) d h = refl
seen-get xs (suc k) (p ∷ ps) d h = seen-get xs k ps d (omega (arith, h))

pub length-seen : (xs : List ℕ) (p : SymbolRange) → p.start ≤ p.end → p.end ≤ length xs → length (symbols_in xs p) ≡ p.end - p.start
length-seen xs p low high =
    let len = length-drop p.start xs in
    let fits : p.end - p.start ≤ length (drop p.start xs) = omega (arith, len, low, high) in
    length-take-le (p.end - p.start) (drop p.start xs) fits
