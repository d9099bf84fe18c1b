-- The declared symbols; a name that is no symbol is not one of them.
use Rattle.frame.proofs.Words.{list_all, sym, ◌∙◌, ap, subst, arith, take-append-drop, ◌≡◌, ℕ, Bool, true, false, cond, ◌||◌, nat_lt, List, [], ◌∷◌, ◌++◌, length, take, drop, refl, take-append_seam, and_parts, or_parts, or-false, Name, name_eq, has_name, Stmt, Const, Database, constants, variables, was_symbol, was_variable, with_name, with_names, AreCodes, AreDistinct, Declared, declared_symbols, kind_in, is_some_constant, MatchesKinds, symbols_declared_by, symbols_from, symbols_of, has_name-append, symbols_of-later, symbols-distinct, was_symbol-either, AreBelow, Storage, is_kind_of_symbol, AreStored, names_in, statements_of}
use Rattle.mm_read.specs.declared.stmt.Stmt.TheVariants.{Var}

-- the names of a storage are distinct
pub stored-distinct : (k : Storage) → AreStored k → AreDistinct (names_in k)
stored-distinct k stored = subst AreDistinct (sym stored.kept.names_kept) (symbols-distinct (statements_of k))

-- the symbols of the first statements come first
pub symbols_of-front : (n : ℕ) (S : Database) → take (length (symbols_of (take n S))) (symbols_of S) ≡ symbols_of (take n S)
symbols_of-front n S =
    let rest = symbols_of-later (take n S) (drop n S) in
    ap (take (length (symbols_of (take n S)))) (ap symbols_of (sym (take-append-drop n S)) ∙ rest.1) ∙ take-append_seam (symbols_of (take n S)) rest.0

-- the numbers of names are less than the count of names
pub codes-below : (names : List Name) (codes : List ℕ) → AreCodes names codes → AreBelow (length names) codes
codes-below names [] h = tt
codes-below names (c ∷ codes) h =
    let p = and_parts (nat_lt c (length names)) (list_all (λ d. nat_lt d (length names)) codes) h in let lt = p.0 in (grind (arith, lt), codes-below names codes p.1)

-- ---- a name that is no symbol

-- a symbol that a statement declares is a constant or a variable
by-unnamed : (s : Stmt) (x : Name) → (has_name x (constants s) || has_name x (variables s)) ≡ false → has_name x (symbols_declared_by s) ≡ false
by-unnamed (Const names) x h = sym (or-false (has_name x names)) ∙ h
by-unnamed (Var names) x h = h
by-unnamed s x h = refl

with-unnamed : (names xs : List Name) (x : Name) → has_name x names ≡ false → has_name x xs ≡ false → has_name x (with_names names xs) ≡ false
with-unnamed names [] x h k = h
with-unnamed names (y ∷ xs) x h k = let p = or_parts (name_eq x y) (has_name x xs) k in with-unnamed (with_name names y) xs x (by (has_name y names) p.0) p.1
  where
    by : (b : Bool) → name_eq x y ≡ false → has_name x (cond b names (names ++ y ∷ [])) ≡ false
    by true q = h
    by false q = has_name-append x names (y ∷ []) ∙ (ap (λ b. b || (name_eq x y || false)) h ∙ ap (λ b. b || false) q)

never-named : (names : List Name) (S : Database) (x : Name) → has_name x names ≡ false → was_symbol S x ≡ false → has_name x (symbols_from names S) ≡ false
never-named names [] x h k = h
never-named names (s ∷ S) x h k =
    let p = or_parts (has_name x (constants s) || has_name x (variables s)) (was_symbol S x) k in
    never-named (with_names names (symbols_declared_by s)) S x (with-unnamed names (symbols_declared_by s) x h (by-unnamed s x p.0)) p.1

-- a symbol was declared exactly if its kind is that of a declared symbol
was-declared : (S : Database) (names : Declared) (x : Name) → MatchesKinds S names → was_symbol S x ≡ is_kind_of_symbol (kind_in names x)
was-declared S names x told =
    was_symbol-either S x ∙ (ap (λ b. b || was_variable S x) (told x).constant ∙ ap (λ b. is_some_constant (kind_in names x) || b) (told x).variable)

-- a name that is no declared symbol has no number among the symbols
pub no-number : (S : Database) (names : Declared) (x : Name) → MatchesKinds S names → declared_symbols names ≡ symbols_of S → is_kind_of_symbol (kind_in names x) ≡ false → has_name x (declared_symbols names) ≡ false
no-number S names x told same h = ap (has_name x) same ∙ never-named [] S x refl (was-declared S names x told ∙ h)
