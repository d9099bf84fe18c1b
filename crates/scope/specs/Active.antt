-- The statements that are active after a list of statements. Positions count from 1.
-- Source: Metamath, 4.2.8 (scoping statements) and 4.2.
-- The code keeps stacks, with their heights at the start of each open block; here the `${` and `$}`
-- after a statement are counted.
use Rattle.std.specs.Prelude.{ℕ, zero, suc, ◌+◌, ◌-◌, Bool, true, false, ◌&&◌, ◌||◌, ◌==◌, nat_le, nat_lt, if◌then◌else◌, List, [], ◌∷◌, take, drop, map, Option, Some, None, slice_get}
use Rattle.scope.specs.Words.{list_any, flat_map, Name, name_eq, has_name, Stmt, Open, Close, Const, Var, Disj, Float, Ess, Axiom, Prove, Expr, Database}

-- the statement at a position
abbrev pub stmt_at : Database → ℕ → Option Stmt
stmt_at S zero = None
stmt_at S (suc n) = slice_get S n

-- the statements at earlier positions
abbrev pub before : Database → ℕ → Database
before S at = take (at - 1) S

-- no prefix of the statements closes a block that is not open, if `depth` blocks are open before
-- them
abbrev pub stays_open : ℕ → Database → Bool
stays_open depth [] = true
stays_open depth (Open ∷ S) = stays_open (suc depth) S
stays_open zero (Close ∷ S) = false
stays_open (suc depth) (Close ∷ S) = stays_open depth S
stays_open depth (s ∷ S) = stays_open depth S

-- those of these statements that are active after them, with their positions, which begin at `at`:
-- a statement is active if none of the later ones closes its block. This applies to a `$a` or `$p`
-- too, which the book calls active up to the end of the database: a citation of one demands only
-- that it is earlier.
abbrev pub active_from : ℕ → Database → List (ℕ × Stmt)
active_from at [] = []
active_from at (s ∷ S) =
    if stays_open 0 S then (at, s) ∷ active_from (at + 1) S else active_from (at + 1) S

-- the statements that are active after all of them, with their positions
abbrev pub active : Database → List (ℕ × Stmt)
active S = active_from 1 S

-- whether the statement at i is active at j
abbrev pub is_active : Database → ℕ → ℕ → Bool
is_active S i j = nat_le 1 i && nat_lt i j && stays_open 0 (take (j - 1 - i) (drop i S))

-- the names that a `$c`, a `$v` or a `$d` lists
abbrev pub constants : Stmt → List Name
constants (Const names) = names
constants s = []

abbrev pub variables : Stmt → List Name
variables (Var names) = names
variables s = []

abbrev pub disjoint_names : Stmt → List Name
disjoint_names (Disj names) = names
disjoint_names s = []

-- the label of a statement, or `None` if it has none
abbrev pub label_of : Stmt → Option Name
label_of (Float label constant variable) = Some label
label_of (Ess label expr) = Some label
label_of (Axiom label expr) = Some label
label_of (Prove label expr proof) = Some label
label_of s = None

-- the expression of a `$f`, `$e`, `$a` or `$p`
abbrev pub expr_of : Stmt → Expr
expr_of (Float label constant variable) = constant ∷ variable ∷ []
expr_of (Ess label expr) = expr
expr_of (Axiom label expr) = expr
expr_of (Prove label expr proof) = expr
expr_of s = []

abbrev pub proof_of : Stmt → List Name
proof_of (Prove label expr proof) = proof
proof_of s = []

-- a statement without its proof
abbrev pub bare : Stmt → Stmt
bare (Prove label expr proof) = Prove label expr []
bare s = s

-- the statements without their proofs, which no rule, no frame and no derivation looks at
abbrev pub bares : Database → Database
bares S = map bare S

abbrev pub is_open : Stmt → Bool
is_open Open = true
is_open s = false

abbrev pub is_close : Stmt → Bool
is_close Close = true
is_close s = false

abbrev pub is_assertion : Stmt → Bool
is_assertion (Axiom label expr) = true
is_assertion (Prove label expr proof) = true
is_assertion s = false

abbrev pub is_essential : Stmt → Bool
is_essential (Ess label expr) = true
is_essential s = false

abbrev pub is_provable : Stmt → Bool
is_provable (Prove label expr proof) = true
is_provable s = false

-- whether the statement is a `$f` of this variable
abbrev pub is_float_of : Name → Stmt → Bool
is_float_of x (Float label constant variable) = name_eq x variable
is_float_of x s = false

abbrev pub has_label : Name → Option Name → Bool
has_label x None = false
has_label x (Some label) = name_eq x label

-- an active `$v` declares it
abbrev pub is_variable : Database → Name → Bool
is_variable S x = list_any (λ p. has_name x (variables p.1)) (active S)

-- an earlier `$c` declares it
abbrev pub is_constant : Database → Name → Bool
is_constant S x = list_any (λ s. has_name x (constants s)) S

-- an earlier `$c` or `$v` declares it
abbrev pub was_symbol : Database → Name → Bool
was_symbol S x = list_any (λ s. has_name x (constants s) || has_name x (variables s)) S

-- an earlier statement has it as its label
abbrev pub was_label : Database → Name → Bool
was_label S x = list_any (λ s. has_label x (label_of s)) S

-- an active `$f` gives it a typecode
abbrev pub has_float : Database → Name → Bool
has_float S x = list_any (λ p. is_float_of x p.1) (active S)

-- an earlier `$v` declares it
abbrev pub was_variable : Database → Name → Bool
was_variable S x = list_any (λ s. has_name x (variables s)) S

-- the variable to which a `$f` gives a typecode
abbrev pub typed_by : Stmt → List Name
typed_by (Float label constant variable) = variable ∷ []
typed_by s = []

-- the active variables, in order of declaration
abbrev pub active_variables : Database → List Name
active_variables S = flat_map (λ p. variables p.1) (active S)

-- the variables of the active `$f`, in order
abbrev pub typed_variables : Database → List Name
typed_variables S = flat_map (λ p. typed_by p.1) (active S)

-- how many statements pass the test
abbrev pub count : (Stmt → Bool) → Database → ℕ
count p [] = 0
count p (s ∷ S) = if p s then 1 + count p S else count p S

-- no block is open: there are as many `${` as `$}`
abbrev pub is_closed : Database → Bool
is_closed S = count is_open S == count is_close S
