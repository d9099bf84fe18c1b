-- The CSS classes of the typecodes of a database and of the variables of a page.
-- Source: this project's choice: the classes are numbered in the order of the first `$f` of each
-- typecode.
-- The code keeps each class in a table that is indexed by symbol number; 0 is no class.
use Rattle.std.specs.Prelude.{ℕ, zero, suc, ◌+◌, ◌-◌, ◌==◌, Bool, true, false, ◌&&◌, if◌then◌else◌, List, [], ◌∷◌, ◌++◌, length, get_or, replicate, slice_set, Option, Some, None}
use Rattle.names.specs.Codes.{codes_or_len}
use Rattle.scope.specs.Active.{expr_of}
use Rattle.mm_read.specs.declared.stmt.Stmt.TheVariants.{Float}
use Rattle.proof_pages.specs.Words.{Name, Stmt, Expr, Database, stmt_at}
use Rattle.proof_pages.specs.declared.css_classes.CssClasses.{CssClasses}

-- the symbol numbers of the expression of the statement at a position
abbrev pub expr_or_empty : Option Stmt → Expr
expr_or_empty None = []
expr_or_empty (Some s) = expr_of s

abbrev pub expr_numbers : List Name → Database → ℕ → List ℕ
expr_numbers names F position = codes_or_len names (expr_or_empty (stmt_at F position))

-- there is a `$f` at the position
abbrev pub is_float_or_none : Option Stmt → Bool
is_float_or_none (Some (Float label constant variable)) = true
is_float_or_none s = false

abbrev pub is_float_at : Database → ℕ → Bool
is_float_at S position = is_float_or_none (stmt_at S position)

-- the numbers of the typecode and of the variable of the `$f` at a position, if there is one
abbrev pub pair_if : Bool → List ℕ → Option (ℕ × ℕ)
pair_if float e = if float && (length e == 2) then Some (get_or e 0 0, get_or e 1 0) else None

abbrev pub float_numbers : List Name → Database → Database → ℕ → Option (ℕ × ℕ)
float_numbers names S F position = pair_if (is_float_at S position) (expr_numbers names F position)

-- a table in which a symbol has a class
abbrev pub padded : List ℕ → ℕ → List ℕ
padded table len = table ++ replicate (len - length table) 0

abbrev pub with_class : List ℕ → ℕ → ℕ → List ℕ
with_class table symbol css_class = slice_set (padded table (symbol + 1)) symbol css_class

-- ---- a database

-- the class of each typecode, and the number of classes
pub record Classes : Type 0 where
  pub table : List ℕ
  pub count : ℕ

abbrev pub classes_view : List ℕ → ℕ → Classes
classes_view table count = record { table = table; count = count }

abbrev pub class_of : Classes → ℕ → ℕ
class_of T typecode = get_or T.table typecode 0

-- a typecode gets the next class, unless it has one
abbrev pub with_typecode : Classes → ℕ → Classes
with_typecode T typecode = if class_of T typecode == 0 then record { table = with_class T.table typecode (T.count + 1); count = T.count + 1 } else T

abbrev pub with_float : Classes → Option (ℕ × ℕ) → Classes
with_float T None = T
with_float T (Some float) = with_typecode T float.0

-- the classes of the first n statements
abbrev pub classes_of_first : List Name → Database → Database → ℕ → Classes
classes_of_first names S F zero = record { table = []; count = 0 }
classes_of_first names S F (suc n) = with_float (classes_of_first names S F n) (float_numbers names S F (suc n))

-- the classes of a database; F has the same statements without their proofs
abbrev pub classes_of : List Name → Database → Database → Classes
classes_of names S F = classes_of_first names S F (length S)

-- ---- a page

-- the class of each variable, the typecodes of these variables, and the class of each of these
pub record PageClasses : Type 0 where
  pub by_symbol : List ℕ
  pub typecodes : List ℕ
  pub recorded : List ℕ

abbrev pub page_classes_view : CssClasses → PageClasses
page_classes_view c = record { by_symbol = c.by_symbol.items; typecodes = c.page_typecodes.items; recorded = c.recorded.items }

abbrev pub no_classes : PageClasses
no_classes = record { by_symbol = []; typecodes = []; recorded = [] }

-- a typecode is one of those of the page
abbrev pub with_page_typecode : PageClasses → ℕ → ℕ → PageClasses
with_page_typecode C typecode css_class =
    if get_or C.recorded typecode 0 == 0
    then record { by_symbol = C.by_symbol; typecodes = C.typecodes ++ typecode ∷ []; recorded = with_class C.recorded typecode css_class }
    else C

-- the variable of a `$f` has the class of its typecode
abbrev pub with_page_float : Classes → PageClasses → Option (ℕ × ℕ) → PageClasses
with_page_float T C None = C
with_page_float T C (Some float) =
    with_page_typecode (record { by_symbol = with_class C.by_symbol float.1 (class_of T float.0); typecodes = C.typecodes; recorded = C.recorded }) float.0 (class_of T float.0)

-- the same for the statements at the first n of some positions
abbrev pub page_classes_of_first : Classes → List Name → Database → Database → (ℕ → ℕ) → PageClasses → ℕ → PageClasses
page_classes_of_first T names S F position C zero = C
page_classes_of_first T names S F position C (suc n) =
    with_page_float T (page_classes_of_first T names S F position C n) (float_numbers names S F (position n))
