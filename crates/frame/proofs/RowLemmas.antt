-- The lists of the active `$d` that have a variable are as long as its row.
use Rattle.frame.proofs.Words.{◌≡◌, ◌∙◌, ap, sym, arith, refl, ℕ, ◌+◌, ◌-◌, ◌<◌, Bool, true, false, cond, List, [], ◌∷◌, length, map, filter, take, slice_get, Some, length-map, take-get, name_at, decode, AreDistinct, Stmt, Entry, Storage, active, actives, is_disj, disjoint_names, names_in, labels_in, statements_of, stmt_of, AreStored, symbols_at, option_symbols, has_code, having_after, positions_with, has_name, Name}
use Rattle.std.specs.List.{sum_by}
use Rattle.std.proofs.Common.{zero-add}
use Rattle.std.proofs.lemmas.List.Sums.{sum_by-cons}
use Rattle.frame.specs.Sizes.{row, length_if_listed}
use Rattle.frame.proofs.FoundByNumber.{map-back}
use Rattle.frame.proofs.KindWalk.{disjoint_lists}
use Rattle.frame.proofs.PairTableLemmas.{AreThere, code-name, there}
use Rattle.frame.proofs.SumLemmas.{sum-map}

-- the sum over those of the statements that have a symbol
positions_with-sum : (f : ℕ → ℕ) (found : List ℕ) (es : List Entry) (c : ℕ) (ps : List (ℕ × Stmt)) → sum_by f (having_after found es c ps) ≡ sum_by f found + sum_by (λ p. cond (has_code es c p.0) (f p.0) 0) ps
positions_with-sum f found es c [] = omega arith
positions_with-sum f found es c (p ∷ ps) =
    by (has_code es c p.0) (positions_with-sum f (cond (has_code es c p.0) (p.0 ∷ found) found) es c ps) ∙ ap (λ n. sum_by f found + n) (sym (sum_by-cons (λ q. cond (has_code es c q.0) (f q.0) 0) p ps))
  where
    rest : ℕ
    rest = sum_by (λ q. cond (has_code es c q.0) (f q.0) 0) ps

    by : (b : Bool) → sum_by f (having_after (cond (has_code es c p.0) (p.0 ∷ found) found) es c ps) ≡ sum_by f (cond b (p.0 ∷ found) found) + rest
        → sum_by f (having_after (cond (has_code es c p.0) (p.0 ∷ found) found) es c ps) ≡ sum_by f found + (cond b (f p.0) 0 + rest)
    by true e = e ∙ (ap (λ n. n + rest) (sum_by-cons f p.0 found) ∙ omega arith)
    by false e = e ∙ omega arith

-- functions that agree at statements which stand at their positions have the same sum
pub same-sum : (kind : Stmt → Bool) (S : List Stmt) (f g : ℕ × Stmt → ℕ) (ps : List (ℕ × Stmt)) → AreThere S kind ps → ((p : ℕ × Stmt) → slice_get S (p.0 - 1) ≡ Some p.1 → kind p.1 ≡ true → f p ≡ g p) → sum_by f ps ≡ sum_by g ps
same-sum kind S f g [] are same = refl
same-sum kind S f g (p ∷ ps) are same =
    sum_by-cons f p ps ∙ (ap (λ n. n + sum_by f ps) (same p are.0.0 are.0.1) ∙ (ap (λ n. g p + n) (same-sum kind S f g ps are.1 same) ∙ sym (sum_by-cons g p ps)))

-- statements of other kinds add nothing
kind-sum : (test : Stmt → Bool) (f : ℕ × Stmt → ℕ) → ((p : ℕ × Stmt) → test p.1 ≡ false → f p ≡ 0) → (ps : List (ℕ × Stmt)) → sum_by f (filter (λ p. test p.1) ps) ≡ sum_by f ps
kind-sum test f none [] = refl
kind-sum test f none (p ∷ ps) = by (test p.1) refl (kind-sum test f none ps) ∙ sym (sum_by-cons f p ps)
  where
    by : (b : Bool) → test p.1 ≡ b → sum_by f (filter (λ q. test q.1) ps) ≡ sum_by f ps → sum_by f (cond b (p ∷ filter (λ q. test q.1) ps) (filter (λ q. test q.1) ps)) ≡ f p + sum_by f ps
    by true e more = sum_by-cons f p (filter (λ q. test q.1) ps) ∙ ap (λ n. f p + n) more
    by false e more = let zero : f p ≡ 0 = none p e in omega (arith, more, zero)

module _ (k : Storage) (stored : AreStored k) (d : AreDistinct (names_in k)) (m : ℕ) where
  abbrev N : List Name
  N = names_in k

  abbrev T : List Stmt
  T = take m (statements_of k)

  -- the symbols of an active `$d` are as many as its names
  list-length : (p : ℕ × Stmt) → slice_get T (p.0 - 1) ≡ Some p.1 → is_disj p.1 ≡ true → length (symbols_at k.entries p.0) ≡ length (disjoint_names p.1)
  list-length p stands of_kind =
      let g = take-get m (p.0 - 1) (statements_of k) p.1 stands in
      let e = map-back (stmt_of N (labels_in k)) k.entries (p.0 - 1) p.1 g.1 in
      let list : disjoint_names p.1 ≡ decode N e.0.symbols = ap disjoint_names e.2 ∙ disjoint_lists.stand N (labels_in k) e.0 (ap is_disj (sym e.2) ∙ of_kind) in
      ap (λ o. length (option_symbols o)) e.1 ∙ (sym (length-map e.0.symbols (name_at N)) ∙ ap length (sym list))

  pub row-sum : (x : ℕ) (st : List ℕ) → x < length N → st ≡ positions_with k.entries x (actives is_disj T) → sum_by length (map (symbols_at k.entries) st) ≡ row T (name_at N x)
  row-sum x st lt is =
      let X = name_at N x in let es = k.entries in
      sum-map length (symbols_at es) st
      ∙ (ap (sum_by (λ p. length (symbols_at es p))) is
      ∙ (positions_with-sum (λ p. length (symbols_at es p)) [] es x (actives is_disj T)
      ∙ (zero-add _
      ∙ (same-sum is_disj T (λ p. cond (has_code es x p.0) (length (symbols_at es p.0)) 0) (λ p. length_if_listed X (disjoint_names p.1)) (actives is_disj T) (there k stored d m is_disj)
      (λ p s o. ap (λ b. cond b (length (symbols_at es p.0)) 0) (code-name k stored d m is_disj disjoint_names disjoint_lists x lt p s o) ∙ ap (λ n. cond (has_name X (disjoint_names p.1)) n 0) (list-length p s o))
      ∙ (kind-sum is_disj (λ p. length_if_listed X (disjoint_names p.1)) (λ p o. ap (length_if_listed X) (disjoint_lists.other p.1 o)) (active T)
      ∙ sym (sum-map (length_if_listed X) (λ (q : ℕ × Stmt). disjoint_names q.1) (active T)))))))
