-- Questions on a label: what the proof of a `$p` rests on, its items and the derivation that they
-- spell; who uses a statement.
-- Source: this project's profile; Metamath, 4.2.6 and appendix B.
-- The code finds the label in a table.
use Rattle.std.specs.Prelude.{ℕ, Bool, IsFalse, List}
use Rattle.library.specs.Words.{Name, Stmt, Database, bares, is_provable, Carries, Item, IsProvable, IsRight, Derives}
use Rattle.verify.specs.Derivations.{Derivation}
use Rattle.library.specs.declared.queries.AskFault.{AskFault}
use Rattle.library.specs.declared.queries.AskFault.TheVariants.{NoLabel, NotProvable}
use Rattle.library.specs.Uses.{HasItems, Uses, IsUser, AreLabelsOf}

-- no statement has the label
abbrev pub HasNoLabel : Database → Name → Type 0
HasNoLabel S label = (i : ℕ) (s : Stmt) → ¬ Carries S i s label

-- a statement has the label, and is no `$p`
pub record NamesNoProvable (S : Database) (label : Name) : Type 0 where
  pub position : ℕ
  pub stmt : Stmt
  pub carries : Carries S position stmt label
  pub other : IsFalse (is_provable stmt)

-- the `$p` with the label is at position j
pub record NamesProvable (S : Database) (label : Name) (j : ℕ) : Type 0 where
  pub stmt : Stmt
  pub carries : Carries S j stmt label
  pub provable : IsProvable S j stmt

-- the labels of the `$a` that the `$p` with the label rests on
abbrev pub IsTrace : Database → Name → List Name → Type 0
IsTrace S label labels = (j : ℕ) × NamesProvable S label j × AreLabelsOf S (Uses S j) labels

-- the labels of the `$p` that cite the statement with the label, or, if all users are asked for,
-- that rest on it
abbrev pub IsUsage : Database → Name → Bool → List Name → Type 0
IsUsage S label all labels = (a : ℕ) × (s : Stmt) × Carries S a s label × AreLabelsOf S (IsUser S all a) labels

-- the `$p` with the label is at position j, and its tokens write these items, which are right
pub record IsProofOf (S : Database) (label : Name) (j : ℕ) (items : List Item) : Type 0 where
  pub named : NamesProvable S label j
  pub written : HasItems S j items
  pub right : IsRight (bares S) j items

-- why the label names no `$p`
abbrev pub IsNoProvable : Database → Name → AskFault → Type 0
IsNoProvable S label NoLabel = HasNoLabel S label
IsNoProvable S label NotProvable = NamesNoProvable S label
IsNoProvable S label fault = ⊥

-- the proof of the `$p` at j spells the derivation
abbrev pub SpellsTree : Database → ℕ → Derivation → Type 0
SpellsTree S j t = (items : List Item) × HasItems S j items × Derives (bares S) j items t

-- the derivation that the proof of the `$p` with the label spells
abbrev pub IsTreeOf : Database → Name → Derivation → Type 0
IsTreeOf S label t = (j : ℕ) × NamesProvable S label j × SpellsTree S j t
