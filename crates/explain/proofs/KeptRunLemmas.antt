-- The result of a citation, and the fault of wrong results.
use Rattle.explain.proofs.Words.{◌≡◌, ℕ, zero, suc, ◌<◌, Bool, true, List, [], ◌∷◌, ◌++◌, length, refl, sym, ◌∙◌, ap, subst, Some, None, Option, slice_get, ◌&&◌, IsTrue, list_all, same_Some, Name, Stmt, Database, Expr, stmt_at, before, expr_of, is_variable, is_assertion, decode, hypotheses, HasAssertion, IsHypothesis, ItemFault, UnknownLabel, Inactive, NotEarlier, TooFewResults, OtherTypecode, OtherExpression, NotDisjoint, TooManySymbols, NoMarkedResult, image_at, images_read, AreCorrectResults, images_of, IsResultsFault, CitationGives, of_assertion, State, IsCitationFault}
use Rattle.mm_read.specs.declared.stmt.Stmt.TheVariants as stmt
use Rattle.frame.specs.Substitution.{apply as applied}

-- the images that are read are images of variables
variables_are : (S : Database) (V : Name → Bool) (ps : List ℕ) (rs : List Expr)
    → ((k p : ℕ) (l c x : Name) → slice_get ps k ≡ Some p → stmt_at S p ≡ Some (stmt.Float l c x) → V x ≡ true)
    → list_all (λ q. V q.0) (images_read S ps rs) ≡ true
variables_are S V [] rs h = refl
variables_are S V (p ∷ ps) [] h = refl
variables_are S V (p ∷ ps) (e ∷ rs) h = one (stmt_at S p) refl (variables_are S V ps rs (λ k q l c x a b. h (suc k) q l c x a b))
  where
    one : (o : Option Stmt) → stmt_at S p ≡ o → list_all (λ q. V q.0) (images_read S ps rs) ≡ true → list_all (λ q. V q.0) (image_at o e ++ images_read S ps rs) ≡ true
    one None at rest = rest
    one (Some (stmt.Float l c x)) at rest = ap (λ b. b && list_all (λ q. V q.0) (images_read S ps rs)) (h zero p l c x refl at) ∙ rest
    one (Some stmt.Open) at rest = rest
    one (Some stmt.Close) at rest = rest
    one (Some (stmt.Const w)) at rest = rest
    one (Some (stmt.Var w)) at rest = rest
    one (Some (stmt.Disj w)) at rest = rest
    one (Some (stmt.Ess l w)) at rest = rest
    one (Some (stmt.Axiom l w)) at rest = rest
    one (Some (stmt.Prove l w r)) at rest = rest

-- if the results are correct, the citation gives the conclusion under the images that they give
pub gives_is : (S : Database) (at a : ℕ) (s : Stmt) (rs : List Expr) (stack below : List Expr) (e : Expr) → a < at → HasAssertion S a s
    → ((k p : ℕ) (l c x : Name) → slice_get (hypotheses (before S a) s) k ≡ Some p → stmt_at S p ≡ Some (stmt.Float l c x) → is_variable (before S a) x ≡ true)
    → AreCorrectResults S at a s rs → stack ≡ below ++ rs → e ≡ applied (images_of S a s rs) (expr_of s) → CitationGives S at a s stack below e
gives_is S at a s rs stack below e earlier stands variable taken whole is =
    of_assertion (images_of S a s rs)
    (record {
      earlier = earlier;
      stands = stands.0;
      assertion = stands.1;
      of_variables = variables_are S (is_variable (before S a)) (hypotheses (before S a) s) rs variable;
      disjoint = taken.disjoint;
    })
    (whole ∙ ap (λ r. below ++ r) (sym taken.fit)) is

-- if the results are wrong, the citation has their fault
pub wrong_fails : (S : Database) (names : List Name) (at a : ℕ) (s : Stmt) (h : State) (below rs : List Expr) (fault : ItemFault) → h.stack ≡ below ++ rs
    → length rs ≡ length (hypotheses (before S a) s) → a < at → HasAssertion S a s → IsResultsFault S names at a s rs fault → IsCitationFault S names at h a s fault
wrong_fails S names at a s h below rs UnknownLabel whole count earlier stands wrong = absurd wrong
wrong_fails S names at a s h below rs (Inactive i) whole count earlier stands wrong = absurd wrong
wrong_fails S names at a s h below rs (NotEarlier i) whole count earlier stands wrong = absurd wrong
wrong_fails S names at a s h below rs (TooFewResults b t n) whole count earlier stands wrong = absurd wrong
wrong_fails S names at a s h below rs (OtherTypecode b p r) whole count earlier stands wrong = record { earlier = earlier; assertion = stands.1; below = below; results = rs; whole = whole; count = count; wrong = wrong }
wrong_fails S names at a s h below rs (OtherExpression b p q r) whole count earlier stands wrong = record { earlier = earlier; assertion = stands.1; below = below; results = rs; whole = whole; count = count; wrong = wrong }
wrong_fails S names at a s h below rs (NotDisjoint b x y u v) whole count earlier stands wrong = record { earlier = earlier; assertion = stands.1; below = below; results = rs; whole = whole; count = count; wrong = wrong }
wrong_fails S names at a s h below rs TooManySymbols whole count earlier stands wrong = absurd wrong
wrong_fails S names at a s h below rs NoMarkedResult whole count earlier stands wrong = absurd wrong

-- a statement at the position of an assertion is an assertion
pub assertion_is : (S : Database) (a : ℕ) (r s : Stmt) → HasAssertion S a r → stmt_at S a ≡ Some s → HasAssertion S a s
assertion_is S a r s has e = (e, subst (λ t. IsTrue (is_assertion t)) (same_Some r s (sym has.0 ∙ e)) has.1)

-- a statement at the position of a hypothesis is that hypothesis, and has its expression
pub hypothesis_is : (S : Database) (names : List Name) (at i : ℕ) (r s : Stmt) (e : List ℕ) → IsHypothesis S at i r → decode names e ≡ expr_of r → stmt_at S i ≡ Some s
    → (IsHypothesis S at i s) × (decode names e ≡ expr_of s)
hypothesis_is S names at i r s e is same stands = subst (λ t. (IsHypothesis S at i t) × (decode names e ≡ expr_of t)) (same_Some r s (sym is.stands ∙ stands)) (is, same)
