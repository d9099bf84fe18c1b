-- The counts of symbols, and the indexes of the names of some kinds.
use Rattle.scope.proofs.Words.{◌≡◌, ℕ, zero, suc, ◌+◌, ◌<◌, ◌≤◌, Bool, true, false, cond, List, [], ◌∷◌, ◌++◌, length, take, Some, slice_get, refl, ◌∙◌, ap, sym, arith, add-zero, length-map, same_Some, Name, name_at, kinds_of, count_after, AreCounted, indexes_where, Declared, names_where, declared_symbols, symbol_count_before, zip_kinds, is_symbol_kind, is_label_kind, CountedKind, NameKind, Label, Constant, Variable}

pub kinds-length : (names : List Name) (entries : List CountedKind) → length entries ≡ length names → length (kinds_of entries) ≡ length names
kinds-length names entries h = length-map entries (λ e. e.kind) ∙ h

-- the first n elements of two lists of the same length are as many
pub take-same : {A B : Type 0} (n : ℕ) (xs : List A) (ys : List B) → length xs ≡ length ys → length (take n xs) ≡ length (take n ys)
take-same zero [] [] h = refl
take-same (suc n) [] [] h = refl
take-same n [] (y ∷ ys) h = absurd (omega (arith, h))
take-same n (x ∷ xs) [] h = absurd (omega (arith, h))
take-same zero (x ∷ xs) (y ∷ ys) h = refl
take-same (suc n) (x ∷ xs) (y ∷ ys) h = ap suc (take-same n xs ys (omega (arith, h)))

-- one more entry, with the count of the symbols before it
pub counted-push : (n m : ℕ) (entries : List CountedKind) (e : CountedKind) → AreCounted n entries → e.earlier_symbols ≡ n + length (indexes_where is_symbol_kind m entries) → AreCounted n (entries ++ e ∷ [])
counted-push n m [] e c h = (h ∙ add-zero n, tt)
counted-push n m (d ∷ entries) e c h = (c.0, counted-push (count_after d) (m + 1) entries e c.1 (by (is_symbol_kind d.kind) h))
  where
    by : (b : Bool) → e.earlier_symbols ≡ n + length (cond b (m ∷ indexes_where is_symbol_kind (m + 1) entries) (indexes_where is_symbol_kind (m + 1) entries))
        → e.earlier_symbols ≡ cond b (d.earlier_symbols + 1) d.earlier_symbols + length (indexes_where is_symbol_kind (m + 1) entries)
    by true k = let o = c.0 in omega (arith, k, o)
    by false k = let o = c.0 in omega (arith, k, o)

pub counted-take : (n i : ℕ) (entries : List CountedKind) → AreCounted n entries → AreCounted n (take i entries)
counted-take n zero [] c = tt
counted-take n (suc i) [] c = tt
counted-take n zero (e ∷ entries) c = tt
counted-take n (suc i) (e ∷ entries) c = (c.0, counted-take (count_after e) i entries c.1)

-- the count of an entry is the number of symbols before its index
pub count-at : (names : List Name) (entries : List CountedKind) (n i : ℕ) (e : CountedKind) → length entries ≡ length names → AreCounted n entries → slice_get entries i ≡ Some e
    → e.earlier_symbols ≡ n + symbol_count_before (zip_kinds names (kinds_of entries)) i
count-at names [] n i e l c h = cc
count-at [] (d ∷ entries) n i e l c h = absurd (omega (arith, l))
count-at (x ∷ names) (d ∷ entries) n zero e l c h = ap (λ (z : CountedKind). z.earlier_symbols) (sym (same_Some d e h)) ∙ (c.0 ∙ sym (add-zero n))
count-at (x ∷ names) (d ∷ entries) n (suc i) e l c h = by (is_symbol_kind d.kind) (count-at names entries (count_after d) i e (omega (arith, l)) c.1 h)
  where
    by : (b : Bool) → e.earlier_symbols ≡ cond b (d.earlier_symbols + 1) d.earlier_symbols + symbol_count_before (zip_kinds names (kinds_of entries)) i
        → e.earlier_symbols ≡ n + length (cond b (x ∷ declared_symbols (take i (zip_kinds names (kinds_of entries)))) (declared_symbols (take i (zip_kinds names (kinds_of entries)))))
    by true k = let o = c.0 in omega (arith, k, o)
    by false k = let o = c.0 in omega (arith, k, o)

-- ---- the indexes of the names of some kinds

pub indexes-push : (own : NameKind → Bool) (n : ℕ) (entries : List CountedKind) (e : CountedKind) → indexes_where own n (entries ++ e ∷ []) ≡ indexes_where own n entries ++ cond (own e.kind) ((n + length entries) ∷ []) []
indexes-push own n [] e = ap (λ i. cond (own e.kind) (i ∷ []) []) (sym (add-zero n))
indexes-push own n (d ∷ entries) e = by (own d.kind) (indexes-push own (n + 1) entries e ∙ ap (λ i. indexes_where own (n + 1) entries ++ cond (own e.kind) (i ∷ []) []) (next n (length entries)))
  where
    next : (n l : ℕ) → n + 1 + l ≡ n + suc l
    next n l = omega arith

    by : (b : Bool) → indexes_where own (n + 1) (entries ++ e ∷ []) ≡ indexes_where own (n + 1) entries ++ cond (own e.kind) ((n + suc (length entries)) ∷ []) []
        → cond b (n ∷ indexes_where own (n + 1) (entries ++ e ∷ [])) (indexes_where own (n + 1) (entries ++ e ∷ [])) ≡ cond b (n ∷ indexes_where own (n + 1) entries) (indexes_where own (n + 1) entries) ++ cond (own e.kind) ((n + suc (length entries)) ∷ []) []
    by true h = ap (λ r. n ∷ r) h
    by false h = h

-- there are as many indexes as names of these kinds
pub indexes-length : (own : NameKind → Bool) (n : ℕ) (names : List Name) (entries : List CountedKind) → length entries ≡ length names → length (indexes_where own n entries) ≡ length (names_where own (zip_kinds names (kinds_of entries)))
indexes-length own n [] [] h = refl
indexes-length own n [] (e ∷ entries) h = absurd (omega (arith, h))
indexes-length own n (x ∷ names) [] h = absurd (omega (arith, h))
indexes-length own n (x ∷ names) (e ∷ entries) h = by (own e.kind) (indexes-length own (n + 1) names entries (omega (arith, h)))
  where
    by : (b : Bool) → length (indexes_where own (n + 1) entries) ≡ length (names_where own (zip_kinds names (kinds_of entries)))
        → length (cond b (n ∷ indexes_where own (n + 1) entries) (indexes_where own (n + 1) entries)) ≡ length (cond b (x ∷ names_where own (zip_kinds names (kinds_of entries))) (names_where own (zip_kinds names (kinds_of entries))))
    by true k = ap suc k
    by false k = k

pub indexes-fewer : (own : NameKind → Bool) (n : ℕ) (entries : List CountedKind) → length (indexes_where own n entries) ≤ length entries
indexes-fewer own n [] = omega arith
indexes-fewer own n (e ∷ entries) = by (own e.kind) (indexes-fewer own (n + 1) entries)
  where
    by : (b : Bool) → length (indexes_where own (n + 1) entries) ≤ length entries → length (cond b (n ∷ indexes_where own (n + 1) entries) (indexes_where own (n + 1) entries)) ≤ suc (length entries)
    by true k = omega (arith, k)
    by false k = omega (arith, k)

-- the name at the index of a number is the name of that number
pub index-at : (own : NameKind → Bool) (n : ℕ) (names : List Name) (entries : List CountedKind) (c p : ℕ) → length entries ≡ length names → slice_get (indexes_where own n entries) c ≡ Some p
    → (i : ℕ) × (p ≡ n + i) × (i < length names) × (name_at names i ≡ name_at (names_where own (zip_kinds names (kinds_of entries))) c)
index-at own n [] [] c p h g = cc
index-at own n [] (e ∷ entries) c p h g = absurd (omega (arith, h))
index-at own n (x ∷ names) [] c p h g = absurd (omega (arith, h))
index-at own n (x ∷ names) (e ∷ entries) c p h g = by (own e.kind) c g (λ d. index-at own (n + 1) names entries d p (omega (arith, h)))
  where
    later : (c : ℕ) → ((i : ℕ) × (p ≡ n + 1 + i) × (i < length names) × (name_at names i ≡ name_at (names_where own (zip_kinds names (kinds_of entries))) c))
        → (i : ℕ) × (p ≡ n + i) × (i < suc (length names)) × (name_at (x ∷ names) i ≡ name_at (names_where own (zip_kinds names (kinds_of entries))) c)
    later c rest =
        let at = rest.1 in let below = rest.2 in
        (suc rest.0, omega (arith, at), omega (arith, below), rest.3)

    by : (b : Bool) (c : ℕ) → slice_get (cond b (n ∷ indexes_where own (n + 1) entries) (indexes_where own (n + 1) entries)) c ≡ Some p
        → ((d : ℕ) → slice_get (indexes_where own (n + 1) entries) d ≡ Some p → (i : ℕ) × (p ≡ n + 1 + i) × (i < length names) × (name_at names i ≡ name_at (names_where own (zip_kinds names (kinds_of entries))) d))
        → (i : ℕ) × (p ≡ n + i) × (i < suc (length names)) × (name_at (x ∷ names) i ≡ name_at (cond b (x ∷ names_where own (zip_kinds names (kinds_of entries))) (names_where own (zip_kinds names (kinds_of entries)))) c)
    by true zero g rest = (0, sym (same_Some n p g) ∙ sym (add-zero n), omega arith, refl)
    by true (suc c) g rest = later c (rest c g)
    by false c g rest = later c (rest c g)

-- the indexes of the first entries come first
pub indexes-take : (own : NameKind → Bool) (n k : ℕ) (names : List Name) (entries : List CountedKind) → length entries ≡ length names
    → indexes_where own n (take k entries) ≡ take (length (names_where own (take k (zip_kinds names (kinds_of entries))))) (indexes_where own n entries)
indexes-take own n zero [] [] h = refl
indexes-take own n (suc k) [] [] h = refl
indexes-take own n k [] (e ∷ entries) h = absurd (omega (arith, h))
indexes-take own n k (x ∷ names) [] h = absurd (omega (arith, h))
indexes-take own n zero (x ∷ names) (e ∷ entries) h = refl
indexes-take own n (suc k) (x ∷ names) (e ∷ entries) h = by (own e.kind) (indexes-take own (n + 1) k names entries (omega (arith, h)))
  where
    by : (b : Bool) → indexes_where own (n + 1) (take k entries) ≡ take (length (names_where own (take k (zip_kinds names (kinds_of entries))))) (indexes_where own (n + 1) entries)
        → cond b (n ∷ indexes_where own (n + 1) (take k entries)) (indexes_where own (n + 1) (take k entries))
        ≡ take (length (cond b (x ∷ names_where own (take k (zip_kinds names (kinds_of entries)))) (names_where own (take k (zip_kinds names (kinds_of entries)))))) (cond b (n ∷ indexes_where own (n + 1) entries) (indexes_where own (n + 1) entries))
    by true g = ap (λ r. n ∷ r) g
    by false g = g

-- the symbols and the labels together are as many as the names
pub both-counts : (names : Declared) → length (declared_symbols names) + length (names_where is_label_kind names) ≡ length names
both-counts [] = refl
both-counts (p ∷ names) = let rest = both-counts names in by p.1 rest
  where
    by : (k : NameKind) → length (declared_symbols names) + length (names_where is_label_kind names) ≡ length names
        → length (cond (is_symbol_kind k) (p.0 ∷ declared_symbols names) (declared_symbols names)) + length (cond (is_label_kind k) (p.0 ∷ names_where is_label_kind names) (names_where is_label_kind names)) ≡ suc (length names)
    by Label h = omega (arith, h)
    by Constant h = omega (arith, h)
    by Variable h = omega (arith, h)
