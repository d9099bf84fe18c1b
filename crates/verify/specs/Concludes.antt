-- The expression that a derivation at the statement `at` of S concludes.
-- Metamath, 4.2.6: a result is a hypothesis, or follows from earlier results by one substitution in
-- an assertion.
-- The code has a stack of ranges in one buffer of symbols; here are trees.
use Rattle.std.specs.Prelude.{◌≡◌, ℕ, List, [], ◌∷◌}
use Rattle.verify.specs.Words.{Stmt, Expr, Database, expr_of, Images, applied, IsHypothesis, IsInstance, premises}
use Rattle.verify.specs.Derivations.{Derivation, Derivations, hyp, apply, none, more}

-- a hypothesis concludes its own expression; an assertion its own with images substituted, if the
-- children conclude its mandatory hypotheses with the same images substituted
abbrev mutual
  pub Concludes : Database → ℕ → Derivation → Expr → Type 0
  Concludes S at (hyp i) e = (s : Stmt) × IsHypothesis S at i s × (e ≡ expr_of s)
  Concludes S at (apply a children) e =
      (s : Stmt) × (σ : Images) × IsInstance S at a s σ × ConcludeAll S at children (premises S a s σ) × (e ≡ applied σ (expr_of s))

  -- the derivations conclude these expressions, in order
  pub ConcludeAll : Database → ℕ → Derivations → List Expr → Type 0
  ConcludeAll S at none [] = Unit {0}
  ConcludeAll S at none (e ∷ es) = ⊥
  ConcludeAll S at (more t children) [] = ⊥
  ConcludeAll S at (more t children) (e ∷ es) = Concludes S at t e × ConcludeAll S at children es
