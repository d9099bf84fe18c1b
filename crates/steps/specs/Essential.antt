-- The essential steps, those that a mathematician reads: the last, and those that a kept step takes
-- for a `$e`.
-- Metamath, 4.2.6: a `$f` states the type of a variable, and a `$e` is a premise.
-- The code marks the steps from the last to the first, and lists the marked ones from the first to
-- the last.
use Rattle.std.specs.Prelude.{◌≡◌, ◌↔◌, ℕ, suc, Bool, false, if◌then◌else◌, List, [], ◌∷◌, length, map, get_or, Option, Some, None, slice_get}
use Rattle.steps.specs.Words.{IsStrictlyIncreasing, Stmt, Database, stmt_at, before, is_essential, hypotheses}
use Rattle.steps.specs.StepTable.{Step}
use Rattle.steps.specs.Rows.{Row, no_row, steps_of}

-- there is a statement, and it is a `$e`
abbrev pub is_premise : Option Stmt → Bool
is_premise None = false
is_premise (Some s) = is_essential s

-- the places taken for a `$e`, among the places taken for the hypotheses at these positions
abbrev pub taken_for_premises : Database → List ℕ → List ℕ → List ℕ
taken_for_premises S [] taken = []
taken_for_premises S (p ∷ ps) [] = []
taken_for_premises S (p ∷ ps) (k ∷ taken) = if is_premise (stmt_at S p) then k ∷ taken_for_premises S ps taken else taken_for_premises S ps taken

-- the mandatory hypotheses of the assertion at a, if there is one
abbrev pub mandatory_hypotheses : Database → ℕ → Option Stmt → List ℕ
mandatory_hypotheses S a None = []
mandatory_hypotheses S a (Some s) = hypotheses (before S a) s

-- the places of the steps that the step takes for a `$e`, in order
abbrev pub premise_places : Database → Step → List ℕ
premise_places S step = taken_for_premises S (mandatory_hypotheses S step.position (stmt_at S step.position)) step.taken

-- the list contains the number
abbrev pub IsIn : ℕ → List ℕ → Type 0
IsIn k ks = (i : ℕ) × (slice_get ks i ≡ Some k)

-- the step at this place is kept: it is the last, or a kept step takes it for a `$e`
pub data IsEssential (S : Database) (steps : List Step) : ℕ → Type 0 where
  is_last : {k : ℕ} → length steps ≡ suc k → IsEssential S steps k
  is_taken : {k : ℕ} → (j : ℕ) (step : Step) → IsEssential S steps j → slice_get steps j ≡ Some step → IsIn k (premise_places S step) → IsEssential S steps k

-- the new row is the old one, but takes only the steps that the old one takes for a `$e`, by their
-- numbers among the kept steps
pub record IsRenumbered (S : Database) (kept : List ℕ) (old new : Row) : Type 0 where
  pub position : new.step.position ≡ old.step.position
  pub taken : map (slice_get kept) new.step.taken ≡ map (λ k. Some k) (premise_places S old.step)
  pub expr : new.expr ≡ old.expr

-- the new rows are the kept ones, in order, renumbered
pub record AreEssential (S : Database) (old new : List Row) : Type 0 where
  pub kept : List ℕ
  pub in_order : IsStrictlyIncreasing kept
  pub exact : (k : ℕ) → IsIn k kept ↔ IsEssential S (steps_of old) k
  pub count : length new ≡ length kept
  pub each : (n k : ℕ) → slice_get kept n ≡ Some k → IsRenumbered S kept (get_or old k no_row) (get_or new n no_row)
