-- The numbers of symbols, and the tables of classes.
use Rattle.std.specs.Prelude.{◌≡◌, ℕ, zero, suc, ◌+◌, ◌-◌, ◌<◌, ◌≤◌, List, [], ◌∷◌, ◌++◌, length, take, map, replicate, Option, Some, None}
use Rattle.std.proofs.Common.{ap, sym, ◌∙◌, arith, refl, length-append}
use Rattle.std.proofs.lemmas.List.{append-nil, length-replicate, take_all}
use Rattle.names.specs.Codes.{name_at, decode, code_or_len, codes_or_len, AreDistinct}
use Rattle.names.proofs.CodesLemmas.{code-at, found-number}
use Rattle.scope.specs.Active.{expr_of}
use Rattle.frame.specs.Below.{AreBelow, AllBelow}
use Rattle.proof_pages.specs.Words.{Name, Stmt, Expr, Database, stmt_at}
use Rattle.proof_pages.specs.Colours.{expr_numbers, expr_or_empty, float_numbers, padded, Classes, classes_of_first, with_float, PageClasses, page_classes_of_first, with_page_float}

-- ---- numbers of symbols

codes_decoded : (all : List Name) (codes : List ℕ) → AreDistinct all → AreBelow (length all) codes → codes ≡ codes_or_len all (decode all codes)
codes_decoded all [] d b = refl
codes_decoded all (n ∷ codes) d b =
    ap (λ m. m ∷ codes) (sym (found-number all (name_at all n) n (sym (code-at all (name_at all n) n d b.0 refl))).1) ∙ ap (λ l. code_or_len all (name_at all n) ∷ l) (codes_decoded all codes d b.1)

-- numbers below the number of names are those of their names
pub numbers_are : (names : List Name) (codes : List ℕ) (e : List Name) → AreDistinct names → AreBelow (length names) codes → decode names codes ≡ e → codes ≡ codes_or_len names e
numbers_are names codes e d b is = codes_decoded names codes d b ∙ ap (codes_or_len names) is

pub lists_are : (names : List Name) (lists : List (List ℕ)) (es : List (List Name)) → AreDistinct names → AllBelow (length names) lists → map (decode names) lists ≡ es → lists ≡ map (codes_or_len names) es
lists_are names lists es d b is = decoded lists b ∙ ap (map (codes_or_len names)) is
  where
    decoded : (lists : List (List ℕ)) → AllBelow (length names) lists → lists ≡ map (codes_or_len names) (map (decode names) lists)
    decoded [] b = refl
    decoded (l ∷ ls) b = ap (λ m. m ∷ ls) (codes_decoded names l d b.0) ∙ ap (λ m. codes_or_len names (decode names l) ∷ m) (decoded ls b.1)

-- there is a statement at a position within the database
pub some_at : (S : Database) (at : ℕ) → 1 ≤ at → at ≤ length S → (s : Stmt) × (stmt_at S at ≡ Some s)
some_at S zero low high = absurd (omega (arith, low))
some_at [] (suc n) low high = absurd (omega (arith, high))
some_at (s ∷ S) (suc zero) low high = (s, refl)
some_at (s ∷ S) (suc (suc n)) low high = some_at S (suc n) (omega arith) (omega (arith, high))

pub expr_is : (F : Database) (names : List Name) (at : ℕ) (numbers : List ℕ) (s : Stmt) → stmt_at F at ≡ Some s → AreDistinct names → AreBelow (length names) numbers → decode names numbers ≡ expr_of s
    → numbers ≡ expr_numbers names F at
expr_is F names at numbers s there d b is =
    numbers_are names numbers (expr_of s) d b is ∙ ap (λ o. codes_or_len names (expr_or_empty o)) (sym there)

pub none_past : (S : Database) (at : ℕ) → length S < at → stmt_at S at ≡ None
none_past S zero past = absurd (omega (arith, past))
none_past [] (suc n) past = refl
none_past (s ∷ S) (suc zero) past = absurd (omega (arith, past))
none_past (s ∷ S) (suc (suc n)) past = none_past S (suc n) (omega (arith, past))

-- ---- tables

pub padded_more : (old new : List ℕ) (len : ℕ) → length old < len → new ≡ take len old ++ replicate (len - length old) 0 → new ≡ padded old len
padded_more old new len short is = is ∙ ap (λ l. l ++ replicate (len - length old) 0) (take_all len old (omega (arith, short)))

pub padded_same : (old : List ℕ) (len : ℕ) → len ≤ length old → old ≡ padded old len
padded_same old len long =
    let none : len - length old ≡ 0 = omega (arith, long) in
    sym (ap (λ n. old ++ replicate n 0) none ∙ append-nil old)

pub in_padded : (old new : List ℕ) (symbol : ℕ) → new ≡ padded old (symbol + 1) → symbol < length new
in_padded old new symbol is =
    let all : length new ≡ length old + (symbol + 1 - length old) = ap length is ∙ (length-append old (replicate (symbol + 1 - length old) 0) ∙ ap (λ n. length old + n) (length-replicate (symbol + 1 - length old) 0)) in
    omega (arith, all)

-- ---- one more statement

pub classes_next : (names : List Name) (S F : Database) (i : ℕ) (old new : Classes) (float : Option (ℕ × ℕ)) → old ≡ classes_of_first names S F i
    → float ≡ float_numbers names S F (i + 1) → new ≡ with_float old float → new ≡ classes_of_first names S F (i + 1)
classes_next names S F i old new float inv is step =
    let next : i + 1 ≡ suc i = omega arith in
    step ∙ (ap (λ T. with_float T float) inv ∙ (ap (with_float (classes_of_first names S F i)) is
    ∙ (ap (λ n. with_float (classes_of_first names S F i) (float_numbers names S F n)) next ∙ ap (classes_of_first names S F) (sym next))))

pub page_classes_next : (T : Classes) (names : List Name) (S F : Database) (position : ℕ → ℕ) (C old new : PageClasses) (i : ℕ) (float : Option (ℕ × ℕ)) → old ≡ page_classes_of_first T names S F position C i
    → float ≡ float_numbers names S F (position i) → new ≡ with_page_float T old float → new ≡ page_classes_of_first T names S F position C (i + 1)
page_classes_next T names S F position C old new i float inv is step =
    let next : i + 1 ≡ suc i = omega arith in
    step ∙ (ap (λ D. with_page_float T D float) inv ∙ (ap (with_page_float T (page_classes_of_first T names S F position C i)) is ∙ ap (page_classes_of_first T names S F position C) (sym next)))
