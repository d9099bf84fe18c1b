-- Numbers that stand for names, and what one more entry changes.
-- Internal to the code: no public clause cites it.
use Rattle.std.specs.Prelude.{◌≡◌, ℕ, ◌<◌, true, false, List, [], ◌∷◌, length, Option, Some, None}
use Rattle.frame.specs.Words.{Stmt, is_open, is_close, LastActive, Kind, Open, Close, Const, Var, Disj, Float, Ess, Axiom, Prove, Entry, Extends}
use Rattle.mm_read.specs.declared.stmt.Stmt.TheVariants as stmt
use Rattle.frame.specs.declared.storage.Storage.{Storage}
use Rattle.frame.specs.Below.{AreBelow}
use Rattle.frame.specs.Stored.Labels.{is_labelled_kind}
use Rattle.frame.specs.Stored.Stacks.{KeepsUntil}

-- ---- numbers that stand for names

-- the number of a label is below n, if statements of the kind have a label
abbrev pub IsLabelBelow : Kind → ℕ → ℕ → Type 0
IsLabelBelow kind label n = is_labelled_kind kind ≡ true → label < n

-- if the kind is that of a `$f`, there are two symbols
abbrev pub HasTwoSymbolsIfFloat : Kind → List ℕ → Type 0
HasTwoSymbolsIfFloat Float codes = length codes ≡ 2
HasTwoSymbolsIfFloat kind codes = Unit {0}

-- the symbols of the entries are below n, and the labels below m; each `$f` has two symbols
abbrev pub AreNumbered : ℕ → ℕ → List Entry → Type 0
AreNumbered n m [] = Unit {0}
AreNumbered n m (e ∷ es) = AreBelow n e.symbols × IsLabelBelow e.kind e.label_count m × AreNumbered n m es × HasTwoSymbolsIfFloat e.kind e.symbols

-- the statement neither opens nor closes a block
abbrev pub IsPlain : Option Stmt → Type 0
IsPlain None = ⊥
IsPlain (Some s) = (is_open s ≡ false) × (is_close s ≡ false)

-- the kind of a statement
abbrev pub kind_of : Stmt → Kind
kind_of stmt.Open = Open
kind_of stmt.Close = Close
kind_of (stmt.Const names) = Const
kind_of (stmt.Var names) = Var
kind_of (stmt.Disj names) = Disj
kind_of (stmt.Float label constant variable) = Float
kind_of (stmt.Ess label expr) = Ess
kind_of (stmt.Axiom label expr) = Axiom
kind_of (stmt.Prove label expr proof) = Prove

-- the `LastActive` after a statement of a kind at a position, if it is no `$}`
abbrev pub next_last_active : LastActive → ℕ → Kind → LastActive
next_last_active l at Open = record { block = at; essential = l.essential; variable = l.variable; disjoint = l.disjoint }
next_last_active l at Ess = record { block = l.block; essential = at; variable = l.variable; disjoint = l.disjoint }
next_last_active l at Var = record { block = l.block; essential = l.essential; variable = at; disjoint = l.disjoint }
next_last_active l at Disj = record { block = l.block; essential = l.essential; variable = l.variable; disjoint = at }
next_last_active l at kind = l

-- names and positions were appended; everything else is as before
pub record HasMoreNames (old new : Storage) : Type 0 where
  pub numbering : Extends old.numbering new.numbering
  pub positions : Extends old.positions.items new.positions.items
  pub ends : new.ends ≡ old.ends
  pub entries : new.entries ≡ old.entries
  pub floats : new.floats ≡ old.floats
  pub disjoints : new.disjoints ≡ old.disjoints
  pub variables : new.variables ≡ old.variables
  pub last_active : new.last_active ≡ old.last_active

-- the new storage may have more at its end: truncated, it is the old one
pub record HasMoreAtEnd (old new : Storage) : Type 0 where
  pub numbering : Extends old.numbering new.numbering
  pub positions : Extends old.positions.items new.positions.items
  pub ends : Extends old.ends.items new.ends.items
  pub entries : new.entries ≡ old.entries
  pub floats : KeepsUntil (length old.entries) old.floats new.floats
  pub disjoints : KeepsUntil (length old.entries) old.disjoints new.disjoints
  pub variables : KeepsUntil (length old.entries) old.variables new.variables
  pub last_active : new.last_active ≡ old.last_active
