-- The marks that the code keeps while it finds the essential steps: one for each step.
-- Source: this project's form of a table of steps.
-- The definition goes from the last step to those that it takes; the code marks the steps that it
-- reaches.
use Rattle.std.specs.Prelude.{◌≡◌, ◌↔◌, ◌⊎◌, ℕ, zero, suc, ◌-◌, ◌≤◌, Bool, true, false, if◌then◌else◌, List, [], ◌∷◌, ◌++◌, length, map, replicate, get_or, Some, slice_get, slice_set}
use Rattle.steps.specs.Words.{Database, Hypothesis, Float, Essential}
use Rattle.steps.specs.StepTable.{Step}
use Rattle.steps.specs.Rows.{Row, row, no_row}
use Rattle.steps.specs.Essential.{premise_places, IsIn, IsEssential}

-- the places taken for a `$e`, among the places taken for these hypotheses
abbrev pub taken_for_essentials : List Hypothesis → List ℕ → List ℕ
taken_for_essentials [] taken = []
taken_for_essentials (h ∷ hs) [] = []
taken_for_essentials (Float x ∷ hs) (k ∷ taken) = taken_for_essentials hs taken
taken_for_essentials (Essential p ∷ hs) (k ∷ taken) = k ∷ taken_for_essentials hs taken

-- ---- marks

-- the step at place k is marked
abbrev pub HasMark : List Bool → ℕ → Type 0
HasMark marks k = get_or marks k false ≡ true

-- the last of n steps is marked, if there is one
abbrev pub mark_last : ℕ → List Bool
mark_last n = slice_set (replicate n false) (n - 1) true

-- each of these places is marked, too
abbrev pub mark_each : List ℕ → List Bool → List Bool
mark_each [] marks = marks
mark_each (k ∷ ks) marks = mark_each ks (slice_set marks k true)

-- these places were marked, and no others
pub record MarksMore (old new : List Bool) (ks : List ℕ) : Type 0 where
  pub count : length new ≡ length old
  pub each : (k : ℕ) → HasMark new k ↔ (HasMark old k ⊎ IsIn k ks)

-- the steps from `from` on were visited: each step that a marked one of them takes for a `$e` is
-- marked, and so is the last; only essential steps are marked
pub record AreMarkedFrom (S : Database) (steps : List Step) (from : ℕ) (marks : List Bool) : Type 0 where
  pub count : length marks ≡ length steps
  pub sound : (k : ℕ) → HasMark marks k → IsEssential S steps k
  pub last : (k : ℕ) → length steps ≡ suc k → HasMark marks k
  pub closed : (j k : ℕ) (step : Step) → from ≤ j → HasMark marks j → slice_get steps j ≡ Some step → IsIn k (premise_places S step) → HasMark marks k

-- the marked steps are the essential ones
pub record AreMarks (S : Database) (steps : List Step) (marks : List Bool) : Type 0 where
  pub count : length marks ≡ length steps
  pub exact : (k : ℕ) → HasMark marks k ↔ IsEssential S steps k

-- ---- numbers

-- the marked places before k, in order
abbrev pub marked_before : List Bool → ℕ → List ℕ
marked_before marks zero = []
marked_before marks (suc k) = if get_or marks k false then marked_before marks k ++ k ∷ [] else marked_before marks k

-- the new number of a marked place
abbrev pub number_of : List Bool → ℕ → ℕ
number_of marks k = length (marked_before marks k)

-- the new numbers of the places before k
pub record AreNumbers (marks : List Bool) (k : ℕ) (numbers : List ℕ) : Type 0 where
  pub count : length numbers ≡ k
  pub each : (j : ℕ) → suc j ≤ k → get_or numbers j 0 ≡ number_of marks j

-- the row at k, renumbered
abbrev pub kept_row : Database → List Row → List Bool → ℕ → Row
kept_row S rows marks k = row (get_or rows k no_row).step.position (map (number_of marks) (premise_places S (get_or rows k no_row).step)) (get_or rows k no_row).expr
