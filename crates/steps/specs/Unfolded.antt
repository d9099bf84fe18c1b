-- The derivation that a table of steps unfolds to: each step applied to the derivations of the
-- steps that it takes.
-- Metamath, 4.2.6: a proof is a tree of citations; a table has each subtree once.
-- The code never unfolds a table: the tree may be exponentially larger.
use Rattle.std.specs.Prelude.{Bool, false, if◌then◌else◌, List, [], ◌∷◌, ◌++◌, length, map, Option, Some, None, ◌-◌}
use Rattle.steps.specs.Words.{Stmt, Database, stmt_at, is_assertion, Derivation, hyp, apply, from_list, pick}
use Rattle.steps.specs.StepTable.{Step}

-- there is a statement, and it is an assertion
abbrev pub has_assertion : Option Stmt → Bool
has_assertion None = false
has_assertion (Some s) = is_assertion s

-- the step's citation, applied to the derivations of the steps that it takes
abbrev pub citation_over : Database → List Derivation → Step → Derivation
citation_over S ts step = if has_assertion (stmt_at S step.position) then apply step.position (from_list (map (pick ts) step.taken)) else hyp step.position

-- the derivations of these steps, appended to those of the earlier steps
abbrev pub unfolded_after : Database → List Derivation → List Step → List Derivation
unfolded_after S ts [] = ts
unfolded_after S ts (step ∷ steps) = unfolded_after S (ts ++ citation_over S ts step ∷ []) steps

-- the derivations of all steps
abbrev pub unfolded : Database → List Step → List Derivation
unfolded S steps = unfolded_after S [] steps

-- the derivation of the last step
abbrev pub last_unfolded : Database → List Step → Derivation
last_unfolded S steps = pick (unfolded S steps) (length steps - 1)
