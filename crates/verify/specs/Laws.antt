-- Laws: items run to a result if and only if they spell a derivation of it.
-- Metamath, 4.2.6 and appendix B: a proof is right if its stack ends with the statement's
-- expression alone.
-- The code only runs; that its runs spell derivations, and that it misses none, is stated here over
-- names.
use Rattle.std.specs.Prelude.{◌≡◌, ℕ, List, [], ◌∷◌, Some}
use Rattle.verify.specs.Words.{Stmt, Expr, Database, stmt_at, before, Item, IsLegal, HasSingleResults}
use Rattle.verify.specs.Derivations.{Derivation}
use Rattle.verify.specs.Concludes.{Concludes}
use Rattle.verify.specs.Spells.{Spells}
use Rattle.verify.specs.Machine.{State, start, Runs}

-- the items spell a derivation of the expression, with this weight
pub record IsSpelled (S : Database) (at : ℕ) (items : List Item) (e : Expr) (weight : ℕ) : Type 0 where
  pub tree : Derivation
  pub after : List Derivation
  pub spelled : Spells S at [] items tree after weight
  pub concludes : Concludes S at tree e

-- the items run to the expression alone, which the derivation concludes, with this weight
pub record RunsTo (S : Database) (at : ℕ) (items : List Item) (t : Derivation) (weight : ℕ) : Type 0 where
  pub end : State
  pub result : Expr
  pub runs : Runs S at start items end
  pub one : end.stack ≡ result ∷ []
  pub concludes : Concludes S at t result
  pub weighs : end.weight ≡ weight

-- a run that ends with one result spells a derivation of it
abbrev pub RunsSpell : Type 0
RunsSpell = (S : Database) (at : ℕ) (items : List Item) (end : State) (e : Expr)
    → Runs S at start items end → end.stack ≡ e ∷ [] → IsSpelled S at items e end.weight

-- items that spell a derivation run to its conclusion, if an assertion's premises determine its
-- conclusion
abbrev pub SpellingsRun : Type 0
SpellingsRun = (S : Database) (at : ℕ) → HasSingleResults S at → (items : List Item) (t : Derivation) (after : List Derivation) (weight : ℕ)
    → Spells S at [] items t after weight → RunsTo S at items t weight

-- each statement obeys the rules, given the earlier ones
abbrev pub AreLegalThroughout : Database → Type 0
AreLegalThroughout S = (j : ℕ) (s : Stmt) → stmt_at S j ≡ Some s → IsLegal (before S j) s

-- on legal statements the items spell at most one derivation
abbrev pub SpelledOnce : Type 0
SpelledOnce = (S : Database) (at : ℕ) → AreLegalThroughout S → (items : List Item) (t u : Derivation) (after after' : List Derivation) (weight weight' : ℕ)
    → Spells S at [] items t after weight → Spells S at [] items u after' weight' → t ≡ u
