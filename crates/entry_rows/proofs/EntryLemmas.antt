-- Columns of entries, and the entries that are read from them.
use Rattle.std.proofs.Common.{◌≡◌, ◌∙◌, ◌+◌, ◌<◌, false, ℕ, List, [], ◌∷◌, ◌++◌, arith, refl, ap, append_assoc}
use Rattle.std.specs.Prelude.{◌^◌, ◌*◌, ◌%◌, ◌/◌, ◌≤◌, ◌==◌, decimal, if◌then◌else◌}
use Rattle.std.specs.List.{AllByRecursion}
use Rattle.std.proofs.lemmas.Bool.Decides.{nat_tests}
use Rattle.std.proofs.lemmas.Fmt.{decimal_by_steps}
use Rattle.sqlite_value.specs.declared.value.Value.{Value}
use Rattle.sqlite_value.specs.declared.value.Value.TheVariants.{Text as TextColumn}
use Rattle.entry_rows.specs.EntryColumns.{names_text, numbers_read}

-- a digit makes ten times the value, plus the digit
numbers_read-digit : (value d n : ℕ) (rest : List ℕ) → d < 10 → value * 10 + d ≡ n → n < 2 ^ 64 → numbers_read value ((48 + d) ∷ rest) ≡ numbers_read n rest
numbers_read-digit value d n rest small is below =
    let no_space : ((48 + d) == 32) ≡ false = grind (arith, nat_tests) in
    let digit : (48 + d) % 16 ≡ d = omega arith in
    let whole : value * 10 % 2 ^ 64 ≡ value * 10 = omega arith in
    let next : (value * 10 + d) % 2 ^ 64 ≡ n = omega arith in
    ap (λ b. if b then value ∷ numbers_read 0 rest else numbers_read ((value * 10 % 2 ^ 64 + (48 + d) % 16) % 2 ^ 64) rest) no_space
    ∙ ap (λ v. numbers_read ((v + (48 + d) % 16) % 2 ^ 64) rest) whole
    ∙ ap (λ e. numbers_read ((value * 10 + e) % 2 ^ 64) rest) digit
    ∙ ap (λ v. numbers_read v rest) next

-- reading the digits of a number gives the number, whatever follows
numbers_read-decimal : (n : ℕ) → n < 2 ^ 64 → n < 2 ^ 64 → (rest : List ℕ) → numbers_read 0 (decimal n ++ rest) ≡ numbers_read n rest
numbers_read-decimal = decimal_by_steps (λ n ds. n < 2 ^ 64 → (rest : List ℕ) → numbers_read 0 (ds ++ rest) ≡ numbers_read n rest) one more
  where
    one : (n : ℕ) → n < 10 → n < 2 ^ 64 → (rest : List ℕ) → numbers_read 0 (((48 + n) ∷ []) ++ rest) ≡ numbers_read n rest
    one n small below rest = numbers_read-digit 0 n n rest small (omega arith) below

    more : (n : ℕ) (ds : List ℕ) → 10 ≤ n → (n / 10 < 2 ^ 64 → (rest : List ℕ) → numbers_read 0 (ds ++ rest) ≡ numbers_read (n / 10) rest)
        → n < 2 ^ 64 → (rest : List ℕ) → numbers_read 0 ((ds ++ ((48 + n % 10) ∷ [])) ++ rest) ≡ numbers_read n rest
    more n ds big front below rest =
        let last : n % 10 < 10 = omega arith in
        let whole : n / 10 * 10 + n % 10 ≡ n = omega arith in
        let less : n / 10 < 2 ^ 64 = omega arith in
        ap (numbers_read 0) (append_assoc ds ((48 + n % 10) ∷ []) rest)
        ∙ front less ((48 + n % 10) ∷ rest)
        ∙ numbers_read-digit (n / 10) (n % 10) n rest last whole below

-- the names of a text are those that it was made of
pub numbers_read-names : (names : List ℕ) → AllByRecursion (λ n. n < 2 ^ 64) names → numbers_read 0 (names_text names) ≡ names
numbers_read-names [] small = refl
numbers_read-names (n ∷ ns) small = numbers_read-decimal n small.0 small.0 (32 ∷ names_text ns) ∙ ap (λ xs. n ∷ xs) (numbers_read-names ns small.1)

-- if a column is the text of these names, the numbers read from it are these
pub numbers_are : (column : Value) (text items names : List ℕ) → TextColumn text ≡ column → column ≡ TextColumn (names_text names) → items ≡ numbers_read 0 text
    → AllByRecursion (λ n. n < 2 ^ 64) names → items ≡ names
numbers_are column text items names found is read small =
    let same : text ≡ names_text names = cc in
    read ∙ ap (λ t. numbers_read 0 t) same ∙ numbers_read-names names small
