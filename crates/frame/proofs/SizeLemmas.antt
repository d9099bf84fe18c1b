-- The size of an assertion, by the entries of its mandatory hypotheses.
use Rattle.frame.proofs.Words.{◌≡◌, ◌∙◌, ap, sym, arith, refl, ℕ, ◌+◌, ◌-◌, Bool, true, false, cond, List, [], ◌∷◌, ◌++◌, length, filter, take, get_or, slice_get, Some, length-map, take-get, name_at, decode, AreDistinct, Stmt, Database, Storage, active, actives, expr_of, hypotheses, is_hypothesis, is_mandatory, names_in, labels_in, statements_of, stmt_of, stmt_by, AreStored, HasTwoSymbolsIfFloat, Name, Kind, Float, Ess}
use Rattle.mm_read.specs.declared.stmt.Stmt.TheVariants as stmt
use Rattle.std.specs.List.{flat_map, sum_by}
use Rattle.std.proofs.lemmas.List.Sums.{sum_by-cons}
use Rattle.scope.specs.Active.{typed_by}
use Rattle.frame.specs.Sizes.{assertion_size, essential_expr, essential_exprs, mandatory_variables, row}
use Rattle.frame.specs.Stored.EntrySizes.{entry_size, listed_size, size_by}
use Rattle.frame.proofs.FoundByNumber.{map-back}
use Rattle.frame.proofs.PairTableLemmas.{there}
use Rattle.frame.proofs.RowLemmas.{same-sum}
use Rattle.frame.proofs.StoredReading.{two-of}
use Rattle.frame.proofs.SumLemmas.{sum-map}

-- what a mandatory hypothesis adds
abbrev stmt_size : Database → Stmt → ℕ
stmt_size T (stmt.Float label constant variable) = row T variable
stmt_size T (stmt.Ess label expr) = length expr
stmt_size T s = 0

second-name : (N : List Name) (codes : List ℕ) → length codes ≡ 2 → name_at N (get_or codes 1 0) ≡ name_at (decode N codes) 1
second-name N (x ∷ y ∷ []) h = refl
second-name N codes h = cc

kind-size : (T : Database) (N : List Name) (label : Name) (s : Stmt) (kind : Kind) (codes : List ℕ) → HasTwoSymbolsIfFloat kind codes → is_hypothesis T s (stmt_by kind label (decode N codes)) ≡ true
    → size_by (record { statements = T; names = N }) kind codes ≡ stmt_size T (stmt_by kind label (decode N codes))
kind-size T N label s Float codes two h = ap (row T) (second-name N codes two)
kind-size T N label s Ess codes two h = sym (length-map codes (name_at N))
kind-size T N label s kind codes two h = cc

-- the `$e` add their lengths, and the `$f` the rows of the mandatory variables
split : (T : Database) (s : Stmt) (ps : List (ℕ × Stmt))
    → sum_by (λ p. stmt_size T p.1) (filter (λ p. is_hypothesis T s p.1) ps) ≡ sum_by length (flat_map (λ p. essential_expr p.1) ps) + sum_by (row T) (filter (is_mandatory T s) (flat_map (λ p. typed_by p.1) ps))
split T s [] = refl
split T s (p ∷ ps) = by p.1 (split T s ps)
  where
    size : ℕ × Stmt → ℕ
    size = λ q. stmt_size T q.1

    mandatory : List (ℕ × Stmt)
    mandatory = filter (λ q. is_hypothesis T s q.1) ps

    exprs : List (List Name)
    exprs = flat_map (λ q. essential_expr q.1) ps

    typed : List Name
    typed = flat_map (λ q. typed_by q.1) ps

    float : (label constant x : Name) (b : Bool) → sum_by size mandatory ≡ sum_by length exprs + sum_by (row T) (filter (is_mandatory T s) typed)
        → sum_by size (cond b ((p.0, stmt.Float label constant x) ∷ mandatory) mandatory) ≡ sum_by length exprs + sum_by (row T) (cond b (x ∷ filter (is_mandatory T s) typed) (filter (is_mandatory T s) typed))
    float label constant x true more =
        let a = sum_by-cons size (p.0, stmt.Float label constant x) mandatory in let b = sum_by-cons (row T) x (filter (is_mandatory T s) typed) in omega (arith, a, b, more)
    float label constant x false more = more

    by : (t : Stmt) → sum_by size mandatory ≡ sum_by length exprs + sum_by (row T) (filter (is_mandatory T s) typed)
        → sum_by size (cond (is_hypothesis T s t) ((p.0, t) ∷ mandatory) mandatory) ≡ sum_by length (essential_expr t ++ exprs) + sum_by (row T) (filter (is_mandatory T s) (typed_by t ++ typed))
    by (stmt.Float label constant x) more = float label constant x (is_mandatory T s x) more
    by (stmt.Ess label expr) more =
        let a = sum_by-cons size (p.0, stmt.Ess label expr) mandatory in let b = sum_by-cons length expr exprs in omega (arith, a, b, more)
    by t more = more

module _ (k : Storage) (stored : AreStored k) (d : AreDistinct (names_in k)) (m : ℕ) (s : Stmt) where
  abbrev T : Database
  T = take m (statements_of k)

  listed-sum : sum_by (listed_size k T) (hypotheses T s) ≡ sum_by length (essential_exprs T) + sum_by (row T) (mandatory_variables T s)
  listed-sum =
      sum-map (listed_size k T) (λ (p : ℕ × Stmt). p.0) (actives (is_hypothesis T s) T)
      ∙ (same-sum (is_hypothesis T s) T (λ p. listed_size k T p.0) (λ p. stmt_size T p.1) (actives (is_hypothesis T s) T) (there k stored d m (is_hypothesis T s)) sized
      ∙ split T s (active T))
    where
      sized : (p : ℕ × Stmt) → slice_get T (p.0 - 1) ≡ Some p.1 → is_hypothesis T s p.1 ≡ true → listed_size k T p.0 ≡ stmt_size T p.1
      sized p stands of_kind =
          let N = names_in k in let L = labels_in k in
          let g = take-get m (p.0 - 1) (statements_of k) p.1 stands in
          let e = map-back (stmt_of N L) k.entries (p.0 - 1) p.1 g.1 in
          ap (entry_size (record { statements = T; names = N })) e.1
          ∙ (kind-size T N (name_at L e.0.label_count) s e.0.kind e.0.symbols (two-of (length N) (length L) k.entries stored.kept.coded (p.0 - 1) e.0 e.1) (ap (is_hypothesis T s) (sym e.2) ∙ of_kind)
          ∙ ap (stmt_size T) (sym e.2))

  -- the count of the code is the size
  pub size-is : (size : ℕ) (codes hypotheses' : List ℕ) → hypotheses' ≡ hypotheses T s → decode (names_in k) codes ≡ expr_of s
      → size ≡ length hypotheses' + length codes + sum_by (listed_size k T) hypotheses' → size ≡ assertion_size T s
  size-is size codes hypotheses' listed named counted =
      let a = ap length listed in
      let b = sym (length-map codes (name_at (names_in k))) ∙ ap length named in
      let c = ap (sum_by (listed_size k T)) listed ∙ listed-sum in
      omega (arith, a, b, c, counted)
