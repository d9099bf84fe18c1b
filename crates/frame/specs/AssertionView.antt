-- The parts of an assertion by numbers: each mandatory hypothesis has its typecode and one number.
-- Metamath, 4.2.6: a citation of an assertion needs results for its mandatory hypotheses.
-- The code keeps these parts with the assertion; the expression of a `$e` is read from the `$e`.
use Rattle.std.specs.Prelude.{◌≡◌, ℕ, ◌<◌, true, List, [], ◌∷◌, length, map, Some}
use Rattle.frame.specs.Words.{Name, has_name, Stmt, Expr, Database, stmt_at, before, expr_of, name_at, decode, Hypothesis, Assertion, Essential, AssertionView, NO_TYPECODE}
use Rattle.mm_read.specs.declared.stmt.Stmt.TheVariants as stmt
use Rattle.entries.specs.declared.assertion_view.Hypothesis.TheVariants.{Float}
use Rattle.frame.specs.FrameOf.{hypotheses, is_mandatory, mandatory_groups}
use Rattle.frame.specs.Below.{AreBelow, AllBelow}
use Rattle.frame.specs.MandatoryPairs.{float_variables, AreMandatoryPairs}

-- the first number of an expression, or `NO_TYPECODE` if it is empty
abbrev pub typecode_of : List ℕ → ℕ
typecode_of [] = NO_TYPECODE
typecode_of (c ∷ codes) = c

-- the number stands for the first symbol of the expression, its typecode
abbrev pub IsTypecode : List Name → ℕ → Expr → Type 0
IsTypecode names h [] = h ≡ NO_TYPECODE
IsTypecode names h (x ∷ e) = (h < length names) × (name_at names h ≡ x)

-- the statement at p is this hypothesis
abbrev pub IsStatementOf : List Name → ℕ → Stmt → Hypothesis → Type 0
IsStatementOf names p (stmt.Float label constant variable) (Float x) = (x < length names) × (name_at names x ≡ variable)
IsStatementOf names p (stmt.Ess label expr) (Essential q) = q ≡ p
IsStatementOf names p s h = ⊥

-- the hypothesis at p, by its typecode and its number
pub record IsNumberedHypothesis (S : Database) (names : List Name) (p typecode : ℕ) (h : Hypothesis) : Type 0 where
  pub stmt : Stmt
  pub stands : stmt_at S p ≡ Some stmt
  pub first : IsTypecode names typecode (expr_of stmt)
  pub is : IsStatementOf names p stmt h

-- the hypotheses at these positions, by their typecodes and their numbers
abbrev pub AreNumberedHypotheses : Database → List Name → List ℕ → List ℕ → List Hypothesis → Type 0
AreNumberedHypotheses S names [] [] [] = Unit {0}
AreNumberedHypotheses S names (p ∷ ps) (typecode ∷ typecodes) (h ∷ hs) = IsNumberedHypothesis S names p typecode h × AreNumberedHypotheses S names ps typecodes hs
AreNumberedHypotheses S names ps typecodes hs = ⊥

-- the numbers are those of the mandatory variables of the assertion s at a
pub record AreVariablesOf (S : Database) (names : List Name) (a : ℕ) (s : Stmt) (variables : List ℕ) : Type 0 where
  pub below : AreBelow (length names) variables
  pub mandatory : (x : Name) → has_name x (decode names variables) ≡ is_mandatory (before S a) s x

-- these lists describe the hypotheses of the assertion s at a
pub record AreListsOf (S : Database) (names : List Name) (a : ℕ) (g : Assertion) (s : Stmt) : Type 0 where
  pub numbered_hypotheses : AreNumberedHypotheses S names (hypotheses (before S a) s) g.typecodes g.numbered_hypotheses
  pub variables : AreVariablesOf S names a s (float_variables g.numbered_hypotheses)

-- these lists describe the hypotheses of the assertion at a
abbrev pub AreBuffersOf : Database → List Name → ℕ → Assertion → Type 0
AreBuffersOf S names a g = (s : Stmt) → stmt_at S a ≡ Some s → AreListsOf S names a g s

-- these are the groups of the assertion s at a
pub record AreGroupsOf (S : Database) (names : List Name) (a : ℕ) (s : Stmt) (groups : List (List ℕ)) : Type 0 where
  pub named : map (decode names) groups ≡ mandatory_groups (before S a) s
  pub below : AllBelow (length names) groups

-- these are the parts of the assertion s at a; if `pairs_listed`, all of its mandatory pairs
pub record IsViewOf (S : Database) (names : List Name) (a : ℕ) (s : Stmt) (c : AssertionView) : Type 0 where
  pub numbered_hypotheses : AreNumberedHypotheses S names (hypotheses (before S a) s) c.typecodes.now c.hypotheses
  pub conclusion : decode names c.conclusion.now ≡ expr_of s
  pub conclusion_below : AreBelow (length names) c.conclusion.now
  pub variables : AreVariablesOf S names a s (float_variables c.hypotheses)
  pub pairs : c.pairs_listed ≡ true → AreMandatoryPairs (record { statements = before S a; names = names }) c.hypotheses c.pairs
  pub pairs_below : AllBelow (length names) c.pairs
