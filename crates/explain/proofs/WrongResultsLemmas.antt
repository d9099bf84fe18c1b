-- Wrong results, from the tests in the code.
use Rattle.explain.proofs.Words.{◌≡◌, ℕ, List, sym, ◌∙◌, ap, subst, true, Name, Stmt, Database, Expr, are_groups_disjoint, DisjointViolation, ItemFault, UnknownLabel, Inactive, NotEarlier, TooFewResults, OtherTypecode, OtherExpression, NotDisjoint, TooManySymbols, NoMarkedResult, IsViolation, IsMismatchFault, IsResultsFault}
use Rattle.frame.specs.Substitution.{Images}

-- a mismatch makes the results wrong
pub wrong_is : (S : Database) (names : List Name) (at a : ℕ) (s : Stmt) (rs : List Expr) (fault : ItemFault) → IsMismatchFault S names a s rs fault → IsResultsFault S names at a s rs fault
wrong_is S names at a s rs UnknownLabel h = absurd h
wrong_is S names at a s rs (Inactive i) h = absurd h
wrong_is S names at a s rs (NotEarlier i) h = absurd h
wrong_is S names at a s rs (TooFewResults b t n) h = absurd h
wrong_is S names at a s rs (OtherTypecode b p r) h = h
wrong_is S names at a s rs (OtherExpression b p q r) h = h
wrong_is S names at a s rs (NotDisjoint b x y u v) h = absurd h
wrong_is S names at a s rs TooManySymbols h = absurd h
wrong_is S names at a s rs NoMarkedResult h = absurd h

module _ {T S : Database} {ns names : List Name} (σ : Images) {gs hs : List (List Name)} (same : T ≡ S) (named : ns ≡ names) (lists : gs ≡ hs) where
  -- a violation stays one if statements, names and groups are replaced with equal ones
  pub violation_moved : (c : DisjointViolation) → IsViolation T ns σ gs c → IsViolation S names σ hs c
  violation_moved c is = subst (λ l. IsViolation S names σ l c) lists (subst (λ n. IsViolation S n σ gs c) named (subst (λ D. IsViolation D ns σ gs c) same is))

  -- groups stay disjoint if statements and groups are replaced with equal ones
  pub disjoint_moved : are_groups_disjoint T σ gs ≡ true → are_groups_disjoint S σ hs ≡ true
  disjoint_moved is = sym (ap (λ D. are_groups_disjoint D σ gs) same ∙ ap (λ l. are_groups_disjoint S σ l) lists) ∙ is
