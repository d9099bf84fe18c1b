-- The parts of the storage after a statement is appended: numbers, labels, positions, symbols.
use Rattle.frame.proofs.Words.{sym, ◌∙◌, ap, subst, arith, inl, inr, add-zero, ◌≡◌, ℕ, zero, suc, ◌+◌, ◌-◌, ◌<◌, ◌≤◌, Bool, true, false, cond, not, nat_lt, ◌⊎◌, List, [], ◌∷◌, ◌++◌, length, map, take, slice_get, Option, Some, None, refl, take-append-le, ltb-true, take-append_seam, Name, Stmt, Database, before, label_of, stays_open, is_close, is_open, count, IsLegal, G10, name_at, decode, AreBelow, Kind, Float, Ess, Axiom, Prove, Entry, stmt_by, stmt_of, positions_from, option_position, AreAllLegal, IsLabelBelow, HasTwoSymbolsIfFloat, AreNumbered, Extends, place, stays_open-append, below-deficit, no_deficit, deficit-close, count-left_open, get-push}
use Rattle.frame.proofs.SymbolNumberLemmas.{decode-extends, name_at-extends, below-more}
use Rattle.mm_read.specs.declared.stmt.Stmt.TheVariants as stmt

-- ---- an entry keeps its meaning if names and labels are appended

pub stmt-more : (names names' labels labels' : List Name) (e : Entry) → Extends names names' → Extends labels labels' → AreBelow (length names) e.symbols → IsLabelBelow e.kind e.label_count (length labels)
    → stmt_of names' labels' e ≡ stmt_of names labels e
stmt-more names names' labels labels' e p q below label =
    ap (stmt_by e.kind (name_at labels' e.label_count)) (decode-extends names names' e.symbols p below) ∙ by e.kind label
  where
    by : (kind : Kind) → IsLabelBelow kind e.label_count (length labels) → stmt_by kind (name_at labels' e.label_count) (decode names e.symbols) ≡ stmt_by kind (name_at labels e.label_count) (decode names e.symbols)
    by Float h = ap (λ x. stmt_by Float x (decode names e.symbols)) (name_at-extends labels labels' e.label_count q (h refl))
    by Ess h = ap (λ x. stmt_by Ess x (decode names e.symbols)) (name_at-extends labels labels' e.label_count q (h refl))
    by Axiom h = ap (λ x. stmt_by Axiom x (decode names e.symbols)) (name_at-extends labels labels' e.label_count q (h refl))
    by Prove h = ap (λ x. stmt_by Prove x (decode names e.symbols)) (name_at-extends labels labels' e.label_count q (h refl))
    by kind h = refl

pub statements-more : (names names' labels labels' : List Name) (es : List Entry) → Extends names names' → Extends labels labels' → AreNumbered (length names) (length labels) es
    → map (stmt_of names' labels') es ≡ map (stmt_of names labels) es
statements-more names names' labels labels' [] p q h = refl
statements-more names names' labels labels' (e ∷ es) p q h =
    ap (λ s. s ∷ map (stmt_of names' labels') es) (stmt-more names names' labels labels' e p q h.0 h.1)
    ∙ ap (λ r. stmt_of names labels e ∷ r) (statements-more names names' labels labels' es p q h.2)

pub numbered-push : (n n' m m' : ℕ) (es : List Entry) (e : Entry) → n ≤ n' → m ≤ m' → AreNumbered n m es → AreBelow n' e.symbols → IsLabelBelow e.kind e.label_count m' → HasTwoSymbolsIfFloat e.kind e.symbols → AreNumbered n' m' (es ++ e ∷ [])
numbered-push n n' m m' [] e le le' h b l t = (b, l, tt, t)
numbered-push n n' m m' (d ∷ es) e le le' h b l t =
    (below-more n n' d.symbols le h.0, λ k. let lt = h.1 k in omega (arith, lt, le'), numbered-push n n' m m' es e le le' h.2 b l t, h.3)

-- ---- positions

pub positions_from-append : (at : ℕ) (A B : Database) → positions_from at (A ++ B) ≡ positions_from at A ++ positions_from (at + length A) B
positions_from-append at [] B = ap (λ n. positions_from n B) (sym (add-zero at))
positions_from-append at (s ∷ A) B =
    ap (option_position (label_of s) at) (positions_from-append (at + 1) A B ∙ ap (λ n. positions_from (at + 1) A ++ positions_from n B) (place at (length A))) ∙ by (label_of s)
  where
    by : (o : Option Name) → option_position o at (positions_from (at + 1) A ++ positions_from (at + suc (length A)) B) ≡ option_position o at (positions_from (at + 1) A) ++ positions_from (at + suc (length A)) B
    by None = refl
    by (Some x) = refl

pub positions_from-push : (at : ℕ) (S : Database) (s : Stmt) → positions_from at (S ++ s ∷ []) ≡ positions_from at S ++ option_position (label_of s) (at + length S) []
positions_from-push at S s = positions_from-append at S (s ∷ [])

-- ---- the statements

pub legal-push : (S : Database) (s : Stmt) → AreAllLegal S → IsLegal S s → AreAllLegal (S ++ s ∷ [])
legal-push S s all own zero r h = cc
legal-push S s all own (suc j) r h = by (get-push S s r j h)
  where
    back : suc j - 1 ≡ j
    back = omega arith

    by : ((j < length S) × (slice_get S j ≡ Some r)) ⊎ ((j ≡ length S) × (s ≡ r)) → IsLegal (before (S ++ s ∷ []) (suc j)) r
    by (inl p) =
        let same : before (S ++ s ∷ []) (suc j) ≡ before S (suc j) =
        ap (λ n. take n (S ++ s ∷ [])) back ∙ (take-append-le j S (s ∷ []) (omega (arith, p.0)) ∙ ap (λ n. take n S) (sym back)) in
        subst (λ B. IsLegal B r) (sym same) (all (suc j) r p.1)
    by (inr p) =
        let same : before (S ++ s ∷ []) (suc j) ≡ S = ap (λ n. take n (S ++ s ∷ [])) (back ∙ p.0) ∙ take-append_seam S (s ∷ []) in
        subst (λ B. IsLegal B r) (sym same) (subst (IsLegal S) p.1 own)

last-rule : (b : Bool) → cond (not b) (Some G10) None ≡ None → b ≡ true
last-rule true h = refl
last-rule false h = cc

pub stays-push : (S : Database) (s : Stmt) → stays_open 0 S ≡ true → IsLegal S s → stays_open 0 (S ++ s ∷ []) ≡ true
stays-push S stmt.Close h l =
    let more = ltb-true (count is_close S) (count is_open S) (last-rule (nat_lt (count is_close S) (count is_open S)) l) in
    below-deficit 0 (S ++ stmt.Close ∷ []) (omega (arith, more, deficit-close S, count-left_open S, no_deficit S h))
stays-push S s h l = stays_open-append 0 S s refl ∙ h

-- ---- an entry uses only numbers of symbols

pub numbered-at : (n m : ℕ) (es : List Entry) → AreNumbered n m es → (k : ℕ) (e : Entry) → slice_get es k ≡ Some e → AreBelow n e.symbols
numbered-at n m [] h k e g = cc
numbered-at n m (d ∷ es) h zero e g = let same : d ≡ e = cc in subst (λ x. AreBelow n x.symbols) same h.0
numbered-at n m (d ∷ es) h (suc k) e g = numbered-at n m es h.2 k e g
