-- Labels that name assertions, each once, and the first label of a list that is wrong.
-- Source: Metamath, 4.2 (assertions are `$a` and `$p`); that a label occurs once is this project's
-- choice.
-- The code finds labels in a table.
use Rattle.std.specs.Prelude.{◌≡◌, ◌⊎◌, ℕ, true, false, IsTrue, IsFalse, List, [], ◌∷◌, ◌++◌, Option, Some, None}
use Rattle.mm_lex.specs.Alphabet.{Name, has_name}
use Rattle.mm_read.specs.declared.stmt.Stmt.{Stmt}
use Rattle.mm_read.specs.Statements.{Database}
use Rattle.scope.specs.Active.{is_assertion}
use Rattle.frame.specs.Citations.{Carries}
use Rattle.library.specs.Queries.{HasNoLabel}
use Rattle.extract.specs.declared.fault.ExtractFault.{ExtractFault}
use Rattle.extract.specs.declared.fault.ExtractFault.TheVariants.{NoLabel, NotAssertion, SameLabel, Memory}

-- an assertion has the label
pub record NamesAssertion (S : Database) (label : Name) : Type 0 where
  pub position : ℕ
  pub stmt : Stmt
  pub carries : Carries S position stmt label
  pub assertion : IsTrue (is_assertion stmt)

-- a statement that is no assertion has the label
pub record NamesHypothesis (S : Database) (label : Name) : Type 0 where
  pub position : ℕ
  pub stmt : Stmt
  pub carries : Carries S position stmt label
  pub other : IsFalse (is_assertion stmt)

-- the fault of a label that follows `earlier` ones
abbrev pub IsLabelFault : Database → List Name → Name → ExtractFault → Type 0
IsLabelFault S earlier label NoLabel = HasNoLabel S label
IsLabelFault S earlier label NotAssertion = NamesHypothesis S label
IsLabelFault S earlier label SameLabel = NamesAssertion S label × (has_name label earlier ≡ true)
IsLabelFault S earlier label Memory = ⊥

-- the label names an assertion, and is not among the earlier ones
abbrev pub IsValidLabel : Database → List Name → Name → Type 0
IsValidLabel S earlier label = NamesAssertion S label × (has_name label earlier ≡ false)

-- the fault of the label, if it is wrong
abbrev pub IsLabelResult : Database → List Name → Name → Option ExtractFault → Type 0
IsLabelResult S earlier label None = IsValidLabel S earlier label
IsLabelResult S earlier label (Some fault) = IsLabelFault S earlier label fault

-- no label of a list that follows `earlier` ones is wrong
abbrev pub AreValidLabels : Database → List Name → List Name → Type 0
AreValidLabels S earlier [] = Unit {0}
AreValidLabels S earlier (label ∷ labels) = IsValidLabel S earlier label × AreValidLabels S (earlier ++ label ∷ []) labels

-- the fault of the first wrong label of a list that follows `earlier` ones
abbrev pub IsFirstLabelFault : Database → List Name → List Name → ExtractFault → Type 0
IsFirstLabelFault S earlier [] fault = ⊥
IsFirstLabelFault S earlier (label ∷ labels) fault =
    IsLabelFault S earlier label fault ⊎ (IsValidLabel S earlier label × IsFirstLabelFault S (earlier ++ label ∷ []) labels fault)
