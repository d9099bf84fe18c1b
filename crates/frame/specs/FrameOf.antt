-- The frame of an assertion after the statements S.
use Rattle.std.specs.Prelude.{◌≡◌, ℕ, Bool, true, false, not, ◌&&◌, ◌||◌, List, [], ◌∷◌, map, filter, Some, IsTrue}
use Rattle.frame.specs.Words.{list_any, Name, name_eq, has_name, Stmt, Database, active, stmt_at, disjoint_names, expr_of, is_essential, is_variable, is_assertion}
use Rattle.mm_read.specs.declared.stmt.Stmt.TheVariants.{Float, Ess}
use Rattle.frame.specs.Parts.{FrameParts}

-- the symbol occurs in the expression of the assertion or of an active `$e`
abbrev pub is_used : Database → Stmt → Name → Bool
is_used S s x = has_name x (expr_of s) || list_any (λ p. is_essential p.1 && has_name x (expr_of p.1)) (active S)

-- a variable that is used
abbrev pub is_mandatory : Database → Stmt → Name → Bool
is_mandatory S s x = is_variable S x && is_used S s x

-- an active statement is a mandatory hypothesis of the assertion s: a `$e`, or the `$f` of a
-- mandatory variable
abbrev pub is_hypothesis : Database → Stmt → Stmt → Bool
is_hypothesis S s (Ess label expr) = true
is_hypothesis S s (Float label constant variable) = is_mandatory S s variable
is_hypothesis S s other = false

-- the mandatory hypotheses, by position, in order
abbrev pub hypotheses : Database → Stmt → List ℕ
hypotheses S s = map (λ p. p.0) (filter (λ p. is_hypothesis S s p.1) (active S))

-- the two are different, and both are in one of the lists
abbrev pub together : List (List Name) → Name → Name → Bool
together lists x y = not (name_eq x y) && list_any (λ names. has_name x names && has_name y names) lists

-- the list of the variables of each active `$d`, mandatory or not; an empty list for each other
-- active statement
abbrev pub active_disjoint_lists : Database → List (List Name)
active_disjoint_lists S = map (λ p. disjoint_names p.1) (active S)

-- x and y are different and both occur in one active `$d`
abbrev pub is_pair : Database → Name → Name → Bool
is_pair S x y = together (active_disjoint_lists S) x y

-- a pair of mandatory variables
abbrev pub is_mandatory_pair : Database → Stmt → Name → Name → Bool
is_mandatory_pair S s x y = is_pair S x y && is_mandatory S s x && is_mandatory S s y

-- the list has two or more variables, and so makes a condition
abbrev pub has_two_or_more : List Name → Bool
has_two_or_more [] = false
has_two_or_more (x ∷ []) = false
has_two_or_more (x ∷ y ∷ names) = true

-- for each active `$d` the list of its mandatory variables, if these are two or more
abbrev pub mandatory_groups : Database → Stmt → List (List Name)
mandatory_groups S s = filter has_two_or_more (map (filter (is_mandatory S s)) (active_disjoint_lists S))

-- the frame of the assertion s
abbrev pub frame_of : Database → Stmt → FrameParts
frame_of S s = record { hypotheses = hypotheses S s; groups = mandatory_groups S s; conclusion = expr_of s }

-- the assertion at a position of a database
abbrev pub HasAssertion : Database → ℕ → Stmt → Type 0
HasAssertion S at s = (stmt_at S at ≡ Some s) × IsTrue (is_assertion s)
