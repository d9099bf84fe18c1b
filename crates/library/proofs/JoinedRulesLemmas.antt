-- The rules over two joined lists.
use Rattle.library.proofs.Words.{◌≡◌, ℕ, zero, suc, Bool, true, false, cond, IsTrue, ◌+◌, ◌-◌, [], ◌∷◌, ◌++◌, map, take, slice_get, Option, Some, None, refl, sym, ◌∙◌, ap, subst, arith, append_assoc, append-nil, map-append, Stmt, Prove, Database, bare, bares, before, stmt_at, broken_rule, end_rule, first_broken, or_later, numbered, AllLegal, IsLegal, G10, is_closed, Good, broken_rule-bares, end_rule-bares}
use Rattle.scope.specs.declared.rule.Rule.{Rule}

-- each of the statements keeps the rules after those before it
abbrev pub AreLegal : Database → Database → Type 0
AreLegal S [] = Unit {0}
AreLegal S (s ∷ T) = IsLegal S s × AreLegal (S ++ s ∷ []) T

none-later : (at : ℕ) (rule : Option Rule) (later : Option (ℕ × Rule)) → or_later at rule later ≡ None → (rule ≡ None) × (later ≡ None)
none-later at None later h = (refl, h)
none-later at (Some rule) later h = cc

none-numbered : (m n : ℕ) (rule : Option Rule) → numbered m rule ≡ None → numbered n rule ≡ None
none-numbered m n None h = refl
none-numbered m n (Some rule) h = cc

-- whether a rule is broken does not depend on the number of the first statement
pub none-broken : (m n : ℕ) (S T : Database) → first_broken m S T ≡ None → first_broken n S T ≡ None
none-broken m n S [] h = none-numbered m n (end_rule S) h
none-broken m n S (s ∷ T) h =
    let p = none-later m (broken_rule S s) (first_broken (m + 1) (S ++ s ∷ []) T) h in
    ap (λ r. or_later n r (first_broken (n + 1) (S ++ s ∷ []) T)) p.0 ∙ none-broken (m + 1) (n + 1) (S ++ s ∷ []) T p.1

pub none-split : (m n : ℕ) (S A T : Database) → first_broken m S (A ++ T) ≡ None → AreLegal S A × (first_broken n (S ++ A) T ≡ None)
none-split m n S [] T h = (tt, ap (λ U. first_broken n U T) (append-nil S) ∙ none-broken m n S T h)
none-split m n S (s ∷ A) T h =
    let p = none-later m (broken_rule S s) (first_broken (m + 1) (S ++ s ∷ []) (A ++ T)) h in
    let q = none-split (m + 1) n (S ++ s ∷ []) A T p.1 in
    ((p.0, q.0), ap (λ U. first_broken n U T) (sym (append_assoc S (s ∷ []) A)) ∙ q.1)

pub none-join : (m n : ℕ) (S A T : Database) → AreLegal S A → first_broken n (S ++ A) T ≡ None → first_broken m S (A ++ T) ≡ None
none-join m n S [] T legal h = none-broken n m S T (ap (λ U. first_broken n U T) (sym (append-nil S)) ∙ h)
none-join m n S (s ∷ A) T legal h =
    ap (λ r. or_later m r (first_broken (m + 1) (S ++ s ∷ []) (A ++ T))) legal.0
    ∙ none-join (m + 1) n (S ++ s ∷ []) A T legal.1 (ap (λ U. first_broken n U T) (append_assoc S (s ∷ []) A) ∙ h)

-- a legal list followed by a text that breaks no rule is legal
pub legal-more : (L T : Database) → AllLegal L → first_broken 1 L T ≡ None → AllLegal (L ++ T)
legal-more L T legal h = none-join 1 1 [] L T (none-split 1 1 [] L [] (ap (first_broken 1 []) (append-nil L) ∙ legal)).0 h

pub legal-text : (L T : Database) → AllLegal (L ++ T) → first_broken 1 L T ≡ None
legal-text L T legal = (none-split 1 1 [] L T legal).1

legal-after : (L T : Database) (i : ℕ) (s : Stmt) → AreLegal L T → slice_get T i ≡ Some s → IsLegal (L ++ take i T) s
legal-after L [] i s legal stands = cc
legal-after L (x ∷ T) zero s legal stands =
    let same : x ≡ s = cc in
    subst (λ U. IsLegal U s) (sym (append-nil L)) (subst (IsLegal L) same legal.0)
legal-after L (x ∷ T) (suc i) s legal stands = subst (λ U. IsLegal U s) (append_assoc L (x ∷ []) (take i T)) (legal-after (L ++ x ∷ []) T i s legal.1 stands)

-- each statement of a legal list is legal after those before it
pub legal-each : (S : Database) → AllLegal S → (j : ℕ) (s : Stmt) → stmt_at S j ≡ Some s → IsLegal (before S j) s
legal-each S legal zero s stands = cc
legal-each S legal (suc i) s stands =
    let same : i ≡ suc i - 1 = omega arith in
    subst (λ n. IsLegal (take n S) s) same (legal-after [] S i s (none-split 1 1 [] S [] (ap (first_broken 1 []) (append-nil S) ∙ legal)).0 stands)

-- the rule that is broken after statements does not depend on their proofs
pub broken-bares : (S U : Database) → bares S ≡ bares U → (s : Stmt) → broken_rule S s ≡ broken_rule U s
broken-bares S U same s = sym (broken_rule-bares S s) ∙ (ap (λ V. broken_rule V s) same ∙ broken_rule-bares U s)

pub first_broken-bares : (at : ℕ) (S U T : Database) → bares S ≡ bares U → first_broken at S T ≡ first_broken at U T
first_broken-bares at S U [] same = ap (numbered at) (sym (end_rule-bares S) ∙ (ap end_rule same ∙ end_rule-bares U))
first_broken-bares at S U (s ∷ T) same =
    ap (λ r. or_later at r (first_broken (at + 1) (S ++ s ∷ []) T)) (broken-bares S U same s)
    ∙ ap (or_later at (broken_rule U s)) (first_broken-bares (at + 1) (S ++ s ∷ []) (U ++ s ∷ []) T (map-append bare S (s ∷ []) ∙ (ap (λ V. V ++ bare s ∷ []) same ∙ sym (map-append bare U (s ∷ [])))))

pub bare-bare : (s : Stmt) → bare (bare s) ≡ bare s
bare-bare (Prove label expr proof) = refl
bare-bare s = refl

-- after a legal statement, the first broken rule is that of the other statements
pub first_broken-taken : (at : ℕ) (S : Database) (s : Stmt) (T : Database) → IsLegal S s → first_broken at S (s ∷ T) ≡ first_broken (at + 1) (S ++ bare s ∷ []) T
first_broken-taken at S s T legal =
    ap (λ r. or_later at r (first_broken (at + 1) (S ++ s ∷ []) T)) legal
    ∙ first_broken-bares (at + 1) (S ++ s ∷ []) (S ++ bare s ∷ []) T (map-append bare S (s ∷ []) ∙ (ap (λ v. map bare S ++ v ∷ []) (sym (bare-bare s)) ∙ sym (map-append bare S (bare s ∷ []))))

-- if no rule is broken at the end, all blocks are closed
none-open : (at : ℕ) (closed : Bool) → numbered at (cond closed None (Some G10)) ≡ None → closed ≡ true
none-open at true h = refl
none-open at false h = cc

-- the blocks of good statements are closed
pub good_closed : (rules S : Database) → rules ≡ bares S → Good S → IsTrue (is_closed rules)
good_closed rules S same good =
    let none : numbered 1 (end_rule S) ≡ None = (none-split 1 1 [] S [] (ap (first_broken 1 []) (append-nil S) ∙ good.legal)).1 in
    ap is_closed same ∙ none-open 1 (is_closed (bares S)) (ap (numbered 1) (end_rule-bares S) ∙ none)
