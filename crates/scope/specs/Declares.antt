-- The names that a statement declares, by its shape.
-- Source: Metamath, 4.2 (which statements declare a name); the list of the names is this project's
-- choice.
use Rattle.std.specs.Prelude.{◌≡◌, ℕ, true, false, List, Option, None}
use Rattle.scope.specs.Words.{Name, has_name, Stmt, Const, Var, Float, Ess, Axiom, Prove}
use Rattle.scope.specs.Kinds.{Declared, declared_symbols, kind_in, is_some_label, with_kind, with_kinds}
use Rattle.scope.specs.Stored.SymbolNumbers.{AreRecorded}
use Rattle.scope.specs.declared.numbering.NameKind.TheVariants.{Label, Constant, Variable}

-- the names after the statement
abbrev pub declared_with : Declared → Stmt → Declared
declared_with names (Const xs) = with_kinds names Constant xs
declared_with names (Var xs) = with_kinds names Variable xs
declared_with names (Float label constant variable) = with_kind names Label label
declared_with names (Ess label expr) = with_kind names Label label
declared_with names (Axiom label expr) = with_kind names Label label
declared_with names (Prove label expr proof) = with_kind names Label label
declared_with names s = names

-- no symbol that the statement declares is a label, and its label is new
abbrev pub MayDeclare : Declared → Stmt → Type 0
MayDeclare names (Const xs) = (x : Name) → has_name x xs ≡ true → is_some_label (kind_in names x) ≡ false
MayDeclare names (Var xs) = (x : Name) → has_name x xs ≡ true → is_some_label (kind_in names x) ≡ false
MayDeclare names (Float label constant variable) = kind_in names label ≡ None
MayDeclare names (Ess label expr) = kind_in names label ≡ None
MayDeclare names (Axiom label expr) = kind_in names label ≡ None
MayDeclare names (Prove label expr proof) = kind_in names label ≡ None
MayDeclare names s = Unit {0}

-- the numbers of the symbols that a `$c` or a `$v` declares are recorded, if any are; another
-- statement leaves the numbers as they were
abbrev pub IsRecordedBy : Declared → Stmt → Option (List ℕ) → Option (List ℕ) → Type 0
IsRecordedBy names (Const xs) old new = AreRecorded (declared_symbols names) xs new
IsRecordedBy names (Var xs) old new = AreRecorded (declared_symbols names) xs new
IsRecordedBy names s old new = new ≡ old
