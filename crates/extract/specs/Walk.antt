-- The state of a walk over a database and a part of it, in parallel.
-- Source: none. The private functions of `comparison` cite these definitions;
-- `HaveSameListedAssertions` is also in the clause of `is_confirmed_part`.
-- The code keeps for each the scope after the statements passed so far.
use Rattle.std.specs.Prelude.{◌≡◌, ℕ, ◌≤◌, Bool, true, false, List, map, take, Some}
use Rattle.mm_lex.specs.Alphabet.{Name, has_name}
use Rattle.mm_read.specs.declared.stmt.Stmt.{Stmt}
use Rattle.mm_read.specs.declared.stmt.Stmt.TheVariants.{Axiom, Prove}
use Rattle.mm_read.specs.Statements.{Database}
use Rattle.scope.specs.Active.{bares, stmt_at}
use Rattle.frame.specs.Citations.{Carries}
use Rattle.frame.specs.FrameOf.{hypotheses, mandatory_groups}
use Rattle.extract.specs.Parts.{IsPartOf, HasSameAssertion}

-- the statement is an assertion with one of these labels
abbrev pub is_listed_assertion : List Name → Stmt → Bool
is_listed_assertion labels (Axiom label expr) = has_name label labels
is_listed_assertion labels (Prove label expr proof) = has_name label labels
is_listed_assertion labels s = false

-- for each assertion with one of these labels among the first `passed` statements of the whole,
-- both databases have the same assertion with its label
abbrev pub HaveSameListedAssertions : Database → Database → List Name → ℕ → Type 0
HaveSameListedAssertions whole part labels passed = (i : ℕ) (s : Stmt) → i ≤ passed → stmt_at whole i ≡ Some s
    → is_listed_assertion labels s ≡ true → (label : Name) → Carries whole i s label → HasSameAssertion whole part label

-- an assertion has equal hypotheses, as statements, and equal groups after the statements of the
-- two scopes
pub record IsSameFrame (whole part whole_scope part_scope : Database) (s : Stmt) : Type 0 where
  pub hypotheses : map (stmt_at whole) (hypotheses whole_scope s) ≡ map (stmt_at part) (hypotheses part_scope s)
  pub groups : mandatory_groups whole_scope s ≡ mandatory_groups part_scope s

-- the first `passed` statements of the whole are passed, the first `found` of the part are found
-- among them, and the two scopes have exactly these statements
pub record IsWalked (whole part : Database) (labels : List Name) (passed found : ℕ) (whole_scope part_scope : Database) : Type 0 where
  pub whole_is : whole_scope ≡ bares (take passed whole)
  pub part_is : part_scope ≡ bares (take found part)
  pub part_of : IsPartOf (take found part) (take passed whole)
  pub assertions : HaveSameListedAssertions whole part labels passed
