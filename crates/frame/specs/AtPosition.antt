-- The answers that a verifier reads from a database by position.
-- Metamath, 4.2: each label names one statement; a proof may cite active hypotheses and earlier
-- assertions.
-- The code returns numbers; these definitions say which statements and names they stand for.
use Rattle.std.specs.Prelude.{◌≡◌, ℕ, ◌<◌, true, List, [], length, get_or, Option, Some, None}
use Rattle.frame.specs.Words.{Name, Stmt, Database, stmt_at, expr_of, is_assertion, decode, AreDistinct}
use Rattle.frame.specs.FrameOf.{HasAssertion}
use Rattle.frame.specs.Substitution.{Images, apply as applied}
use Rattle.frame.specs.declared.meaning.Meaning.{Meaning}
use Rattle.frame.specs.declared.meaning.Meaning.TheVariants.{Hypothesis, Assertion, Nothing}
use Rattle.frame.specs.Citations.{Carries, IsHypothesis, IsInstance, premises}
use Rattle.frame.specs.Below.{AreBelow}
use Rattle.frame.specs.WellTyped.{IsWellTyped}

-- the meaning, at the position `at`, of a citation of the statement at i
abbrev pub IsMeaning : Database → List Name → ℕ → ℕ → Meaning → Type 0
IsMeaning S names at i (Hypothesis e) = (s : Stmt) × IsHypothesis S at i s × (decode names e.now ≡ expr_of s) × AreBelow (length names) e.now
IsMeaning S names at i Assertion = (s : Stmt) × HasAssertion S i s × (i < at)
IsMeaning S names at i Nothing = (s : Stmt) → stmt_at S i ≡ Some s → (IsHypothesis S at i s → ⊥) × (i < at → is_assertion s ≡ true → ⊥)

-- the position of the statement with this label
abbrev pub IsPosition : Database → Name → Option ℕ → Type 0
IsPosition S label (Some i) = (s : Stmt) × Carries S i s label
IsPosition S label None = (i : ℕ) (s : Stmt) → Carries S i s label → ⊥

-- the positions of the statements with these labels
pub record ArePositions (S : Database) (labels : List Name) (positions : List (Option ℕ)) : Type 0 where
  pub count : length positions ≡ length labels
  pub each : (k : ℕ) → k < length labels → IsPosition S (get_or labels k []) (get_or positions k None)

-- no two statements have the same label
abbrev pub HasLabelsOnce : Database → Type 0
HasLabelsOnce S = (i j : ℕ) (s r : Stmt) (label : Name) → Carries S i s label → Carries S j r label → i ≡ j

-- the results that a citation of an assertion at `at` takes determine the result that it gives
abbrev pub HasSingleResults : Database → ℕ → Type 0
HasSingleResults S at =
    (a : ℕ) (s : Stmt) (σ τ : Images) → IsInstance S at a s σ → IsInstance S at a s τ
    → premises S a s σ ≡ premises S a s τ → applied σ (expr_of s) ≡ applied τ (expr_of s)

-- legal statements have these properties, and their names are distinct
pub record HasLegalProperties (S : Database) (names : List Name) : Type 0 where
  pub once : HasLabelsOnce S
  pub single : (at : ℕ) → HasSingleResults S at
  pub well_typed : (a : ℕ) (s : Stmt) → HasAssertion S a s → IsWellTyped S a s
  pub distinct : AreDistinct names
