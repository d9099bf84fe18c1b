-- Earlier statements that have a name in some role, and those of them that are active.
-- Source: Metamath, 4.2.8.
-- The code goes back from the end and counts the blocks that are closed later; the crate `scope`
-- defines which statements are active.
use Rattle.std.specs.Prelude.{◌≡◌, ℕ, suc, ◌+◌, ◌-◌, Bool, false, ◌||◌, ◌&&◌, not, List, [], ◌∷◌, drop, Some, slice_get, IsTrue}
use Rattle.std.specs.List.{list_any}
use Rattle.mm_lex.specs.Alphabet.{Name, has_name}
use Rattle.mm_read.specs.declared.stmt.Stmt.{Stmt}
use Rattle.mm_read.specs.declared.stmt.Stmt.TheVariants.{Open, Close}
use Rattle.mm_read.specs.Statements.{Database}
use Rattle.scope.specs.Active.{stmt_at, stays_open, active_from, constants, variables, label_of, has_label, is_float_of, is_constant, is_variable, has_float}
use Rattle.rule_violation.specs.declared.symbol_search.SymbolFault.{SymbolFault}
use Rattle.rule_violation.specs.declared.symbol_search.SymbolFault.TheVariants.{AlreadyUsed, NotNewVariable, Unknown, NotActiveVariable, Untyped}
use Rattle.rule_violation.specs.declared.search.NameRole.{NameRole}
use Rattle.rule_violation.specs.declared.search.NameRole.TheVariants.{LabelOrSymbol, LabelOrConstant, DeclaredConstant, DeclaredVariable, FloatVariable}

-- whether the statement has the name as: its label or a symbol that it declares (`LabelOrSymbol`);
-- its label or a constant that it declares (`LabelOrConstant`); a constant that it declares
-- (`DeclaredConstant`); a variable that it declares (`DeclaredVariable`); the variable of a `$f`
-- (`FloatVariable`)
abbrev pub has_name_in : NameRole → Name → Stmt → Bool
has_name_in LabelOrSymbol x s = has_label x (label_of s) || (has_name x (constants s) || has_name x (variables s))
has_name_in LabelOrConstant x s = has_label x (label_of s) || has_name x (constants s)
has_name_in DeclaredConstant x s = has_name x (constants s)
has_name_in DeclaredVariable x s = has_name x (variables s)
has_name_in FloatVariable x s = is_float_of x s

-- the statement at i passes the test
pub record PassesAt (S : Database) (i : ℕ) (test : Stmt → Bool) : Type 0 where
  pub stmt : Stmt
  pub is_there : stmt_at S i ≡ Some stmt
  pub passes : IsTrue (test stmt)

-- the statement at i passes the test and is active after S
pub record IsActiveAt (S : Database) (i : ℕ) (test : Stmt → Bool) : Type 0 where
  pub at : PassesAt S i test
  pub stays : IsTrue (stays_open 0 (drop i S))

-- the statement at i is the last one that passes the test and is active after S
pub record IsLastActiveAt (S : Database) (i : ℕ) (test : Stmt → Bool) : Type 0 where
  pub active : IsActiveAt S i test
  pub last : list_any (λ p. test p.1) (active_from (i + 1) (drop i S)) ≡ false

-- how many of the blocks that are open just before the statement are closed by it or later. Later
-- statements close n of the blocks that are open just after it.
abbrev pub closed_blocks_from : Stmt → ℕ → ℕ
closed_blocks_from Open n = n - 1
closed_blocks_from Close n = suc n
closed_blocks_from s n = n

-- how many of the blocks that are open before these statements they close
abbrev pub closed_blocks : Database → ℕ
closed_blocks [] = 0
closed_blocks (s ∷ S) = closed_blocks_from s (closed_blocks S)

-- whether the symbol x has this fault after S
abbrev pub has_fault : Database → SymbolFault → Name → Bool
has_fault S AlreadyUsed x = list_any (has_name_in LabelOrSymbol x) S
has_fault S NotNewVariable x = is_variable S x || list_any (has_name_in LabelOrConstant x) S
has_fault S Unknown x = not (is_constant S x || is_variable S x)
has_fault S NotActiveVariable x = not (is_variable S x)
has_fault S Untyped x = is_variable S x && not (has_float S x)

-- the name at an index is this one, and passes the test
pub record IsNamePassingAt (names : List Name) (test : Name → Bool) (index : ℕ) (name : Name) : Type 0 where
  pub is_there : slice_get names index ≡ Some name
  pub passes : IsTrue (test name)
