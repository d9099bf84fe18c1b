-- The positions of the active statements that pass a test, and of the mandatory hypotheses of a
-- statement.
use Rattle.frame.proofs.Words.{list_any, sym, ◌∙◌, ap, subst, arith, inl, inr, ◌≡◌, ℕ, suc, ◌+◌, ◌&&◌, Bool, true, ◌⊎◌, List, [], ◌∷◌, ◌++◌, length, map, filter, refl, ⊎_map, or_right, or_cases, Name, has_name, Stmt, Database, stays_open, active, expr_of, is_essential, is_used, is_hypothesis, hypotheses, In}
use Rattle.frame.proofs.ActiveAfter.{Stands, active-stands, stands-active}
use Rattle.frame.proofs.ActivePositions.{IsActiveAt, active-members, members-active}

-- the position of an active statement that passes the test is among those listed
pub members : (S : Database) (q : Stmt → Bool) (p : ℕ) (A : Database) (t : Stmt) (B : Database) → S ≡ A ++ t ∷ B → p ≡ suc (length A) → stays_open 0 B ≡ true → q t ≡ true → In p (map (λ y. y.0) (filter (λ y. q y.1) (active S)))
members S q p A t B cut at_p stays h =
    let e : 1 + length A ≡ p = omega (arith, at_p) in
    subst (λ D. In p (map (λ y. y.0) (filter (λ y. q y.1) (active D)))) (sym cut)
    (subst (λ n. In n (map (λ y. y.0) (filter (λ y. q y.1) (active (A ++ t ∷ B))))) e (members-active q 1 A t B stays h))

-- a symbol of an active `$e` is used
pub used-in : (S : Database) (s : Stmt) (x : Name) (A : Database) (t : Stmt) (B : Database) → S ≡ A ++ t ∷ B → stays_open 0 B ≡ true → is_essential t ≡ true → has_name x (expr_of t) ≡ true → is_used S s x ≡ true
used-in S s x A t B whole stays is has =
    let q = λ (r : Stmt). is_essential r && has_name x (expr_of r) in
    or_right (has_name x (expr_of s)) (list_any (λ r. q r.1) (active S))
    (ap (λ D. list_any (λ r. q r.1) (active D)) whole ∙ stands-active q 1 A t B stays (ap (λ b. b && has_name x (expr_of t)) is ∙ has))

-- a used symbol occurs in the assertion or in an active `$e`
pub used-cases : (S : Database) (s : Stmt) (x : Name) → is_used S s x ≡ true → (has_name x (expr_of s) ≡ true) ⊎ Stands S (λ t. is_essential t && has_name x (expr_of t))
used-cases S s x h = ⊎_map (λ e. e) (active-stands (λ t. is_essential t && has_name x (expr_of t)) 1 S) (or_cases (has_name x (expr_of s)) _ h)

-- ---- the mandatory hypotheses

-- p is the position of a mandatory hypothesis of s
abbrev pub IsHyp : Database → Stmt → ℕ → Type 0
IsHyp S s p = IsActiveAt S (is_hypothesis S s) p

abbrev pub AreHyps : Database → Stmt → List ℕ → Type 0
AreHyps S s [] = Unit {0}
AreHyps S s (p ∷ ps) = IsHyp S s p × AreHyps S s ps

listed : (S : Database) (s : Stmt) (ps : List ℕ) → ((p : ℕ) → In p ps → IsHyp S s p) → AreHyps S s ps
listed S s [] h = tt
listed S s (p ∷ ps) h = (h p (inl refl), listed S s ps (λ q i. h q (inr i)))

-- at each position listed there is an active mandatory hypothesis
pub hyps : (S : Database) (s : Stmt) → AreHyps S s (hypotheses S s)
hyps S s = listed S s (hypotheses S s) (λ p i. active-members S (is_hypothesis S s) p [] S 1 refl refl i)
