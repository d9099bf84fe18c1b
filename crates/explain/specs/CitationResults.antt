-- The results before an item, and when no citation of a statement stays within the limit.
-- Source: Metamath, 4.2.6; the limit is this project's.
-- The code has the verifier's results as numbers; here they are expressions.
use Rattle.std.specs.Prelude.{◌≡◌, ℕ, ◌+◌, ◌<◌, List, ◌++◌, length, map, Some}
use Rattle.explain.specs.Words.{Stmt, Expr, Database, expr_of, stmt_at, decode, Numbered, IsHypothesis, IsInstance, premises, named, State, HeldResults, SYMBOLS_LIMIT}
use Rattle.frame.specs.Substitution.{Images, apply as applied}

-- a citation of the statement s at i replaces the results above `below` by e
pub data CitationGives (S : Database) (at i : ℕ) (s : Stmt) (stack below : List Expr) (e : Expr) : Type 0 where
  of_hypothesis : IsHypothesis S at i s → e ≡ expr_of s → stack ≡ below → CitationGives S at i s stack below e
  of_assertion : (σ : Images) → IsInstance S at i s σ → stack ≡ below ++ premises S i s σ → e ≡ applied σ (expr_of s) → CitationGives S at i s stack below e

-- the results by name
abbrev pub named_results : Numbered → HeldResults → State
named_results f results = named f.names results.results

-- no citation of the statement at i gives a result within the limit: with each that one gives, the
-- weight exceeds it
abbrev pub CannotCite : Numbered → ℕ → ℕ → HeldResults → Type 0
CannotCite f at i results =
    (s : Stmt) (below : List Expr) (e : Expr) → stmt_at f.statements i ≡ Some s → CitationGives f.statements at i s (map (decode f.names) results.results.stack) below e
    → SYMBOLS_LIMIT < results.results.weight + length e
