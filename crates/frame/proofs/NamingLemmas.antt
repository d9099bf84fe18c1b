-- The kinds of the names that statements declare.
use Rattle.frame.proofs.Words.{sym, ◌∙◌, ap, subst, arith, append-nil, append_assoc, take-append-drop, ◌≡◌, ℕ, suc, ◌+◌, List, [], ◌∷◌, ◌++◌, length, take, drop, ◌-◌, Result, Ok, Err, OnOk, OnErr, slice_get, refl, take-append_seam, Name, Stmt, Database, declared_with, IsLegal, symbols_of, labels_of, Declared, declared_symbols, declared_labels, is_symbol_kind, IsNumberingOf, declared_with-more, numbering-after, symbols_of-later, names_where-append, Extends, statements_of, AreAllLegal, naming_from, naming_of, Storage, AreStored, get-more, get-last, both-counts}

-- ---- names are only appended

naming_from-more : (names : Declared) (S : Database) → Extends names (naming_from names S)
naming_from-more names [] = ([], sym (append-nil names))
naming_from-more names (s ∷ S) =
    let one = declared_with-more names s in
    let rest = naming_from-more (declared_with names s) S in
    (one.0 ++ rest.0, rest.1 ∙ (ap (λ ns. ns ++ rest.0) one.1 ∙ append_assoc names one.0 rest.0))

naming_from-append : (names : Declared) (S T : Database) → naming_from names (S ++ T) ≡ naming_from (naming_from names S) T
naming_from-append names [] T = refl
naming_from-append names (s ∷ S) T = naming_from-append (declared_with names s) S T

pub naming_of-append : (S : Database) (s : Stmt) → naming_of (S ++ s ∷ []) ≡ declared_with (naming_of S) s
naming_of-append S s = naming_from-append [] S (s ∷ [])

-- the names of the first statements come first
pub naming_of-front : (n : ℕ) (S : Database) → take (length (naming_of (take n S))) (naming_of S) ≡ naming_of (take n S)
naming_of-front n S =
    let rest = naming_from-more (naming_of (take n S)) (drop n S) in
    ap (take (length (naming_of (take n S)))) (ap naming_of (sym (take-append-drop n S)) ∙ (naming_from-append [] (take n S) (drop n S) ∙ rest.1))
    ∙ take-append_seam (naming_of (take n S)) rest.0

-- if names are appended, symbols are appended
pub symbols-extend : (old new : Declared) → Extends old new → Extends (declared_symbols old) (declared_symbols new)
symbols-extend old new p = (declared_symbols p.0, ap declared_symbols p.1 ∙ names_where-append is_symbol_kind old p.0)

-- ---- legal statements

naming-later : (S T : Database) (names : Declared) → AreAllLegal (S ++ T) → IsNumberingOf S names → IsNumberingOf (S ++ T) (naming_from names T)
naming-later S [] names all n = subst (λ (R : Database). IsNumberingOf R names) (sym (append-nil S)) n
naming-later S (s ∷ T) names all n =
    let same : (S ++ s ∷ []) ++ T ≡ S ++ s ∷ T = append_assoc S (s ∷ []) T in
    subst (λ (R : Database). IsNumberingOf R (naming_from names (s ∷ T))) same
    (naming-later (S ++ s ∷ []) T (declared_with names s) (subst AreAllLegal (sym same) all) (numbering-after S s names here n))
  where
    here : IsLegal S s
    here =
        let front : take (suc (length S) - 1) (S ++ s ∷ T) ≡ S = ap (λ n. take n (S ++ s ∷ T)) (omega arith) ∙ take-append_seam S (s ∷ T) in
        subst (λ B. IsLegal B s) front (all (suc (length S)) s (ap (λ R. slice_get R (length S)) (sym (append_assoc S (s ∷ []) T)) ∙ get-more (S ++ s ∷ []) T (length S) s (get-last S s)))

pub naming-all : (S : Database) → AreAllLegal S → IsNumberingOf S (naming_of S)
naming-all S all = naming-later [] S [] all (record { kinds_match = λ x. record { label = refl; constant = refl; variable = refl }; symbols = refl; labels = refl })

pub stored-naming : (k : Storage) → AreStored k → IsNumberingOf (statements_of k) k.numbering
stored-naming k stored = subst (IsNumberingOf (statements_of k)) (sym stored.numbered) (naming-all (statements_of k) stored.kept.legal)

-- each name is a symbol or a label
pub naming-length : (S : Database) (names : Declared) → IsNumberingOf S names → length names ≡ length (symbols_of S) + length (labels_of S)
naming-length S names n =
    sym (both-counts names) ∙ (ap (λ ns. length ns + length (declared_labels names)) n.symbols ∙ ap (λ ls. length (symbols_of S) + length ls) n.labels)

-- the symbols are the earlier ones, followed by others
pub names-later : {T E : Type 0} (r : Result T E) (S : Database) (s : Stmt) (S' : Database) (names names' : List Name) → names ≡ symbols_of S → names' ≡ symbols_of S' → OnOk r (S' ≡ S ++ s ∷ []) → OnErr r (S' ≡ S) → Extends names names'
names-later (Ok x) S s S' names names' is is' added same =
    let more = symbols_of-later S (s ∷ []) in
    (more.0, is' ∙ (ap symbols_of added ∙ (more.1 ∙ ap (λ ns. ns ++ more.0) (sym is))))
names-later (Err e) S s S' names names' is is' added same = ([], is' ∙ (ap symbols_of same ∙ (sym is ∙ sym (append-nil names))))
