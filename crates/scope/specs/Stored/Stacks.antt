-- How the state of the rules is stored: stacks of numbers, with their heights at the start of each
-- open block and at the mark.
-- Source: this project's choice.
-- `Active` counts the `${` and `$}`; here each field of the code is defined as a function of the
-- statements.
use Rattle.std.specs.Prelude.{◌≡◌, ℕ, ◌≤◌, Bool, true, false, not, ◌&&◌, ◌==◌, List, [], ◌∷◌, ◌++◌, length, take, if◌then◌else◌}
use Rattle.scope.specs.Words.{flat_map, list_any, Stmt, Database, codes_or_len, HaveCodes}
use Rattle.scope.specs.Active.{active, stays_open, is_open, is_close, is_closed, variables, typed_by, active_variables, typed_variables}
use Rattle.scope.specs.Kinds.{Declared, IsNumberingOf}
use Rattle.scope.specs.FrameStatement.{as_frame_statement, frame_statements_of}
use Rattle.scope.specs.Symbols.{symbols_of}
use Rattle.scope.specs.declared.stack_heights.StackHeights.{StackHeights}
use Rattle.scope.specs.declared.frame_statements.FrameStatement.{FrameStatement}

-- the heights of the stacks after these active statements
abbrev pub heights_of : List (ℕ × Stmt) → StackHeights
heights_of es = record { variables = length (flat_map (λ p. variables p.1) es); typed = length (flat_map (λ p. typed_by p.1) es); frame_statements = length (flat_map (λ p. as_frame_statement p.0 p.1) es) }

-- their heights before each of the open blocks
abbrev pub blocks_from : List (ℕ × Stmt) → List (ℕ × Stmt) → List StackHeights
blocks_from before [] = []
blocks_from before (p ∷ es) =
    if is_open p.1 then heights_of before ∷ blocks_from (before ++ p ∷ []) es else blocks_from (before ++ p ∷ []) es

abbrev pub blocks_of : Database → List StackHeights
blocks_of S = blocks_from [] (active S)

-- whether the numbers may be pushed: none of them is on the stack, and they are distinct
abbrev pub can_push : List ℕ → List ℕ → Bool
can_push stack [] = true
can_push stack (n ∷ ns) = not (list_any (λ m. m == n) stack) && can_push (stack ++ n ∷ []) ns

-- a statement that neither opens nor closes a block, and neither declares a variable nor gives one
-- a typecode; `added` is how many frame statements it is, 1 for a `$e` or `$d`, else 0
pub record IsPlain (s : Stmt) (added : ℕ) : Type 0 where
  pub no_open : is_open s ≡ false
  pub no_close : is_close s ≡ false
  pub no_variables : variables s ≡ []
  pub untyped : typed_by s ≡ []
  pub added_is : (at : ℕ) → length (as_frame_statement at s) ≡ added

-- the marked statements M are a prefix of S without an open block, the later ones close none of its
-- blocks, and `mark` has the heights after the marked ones
pub record IsMarked (S M : Database) (mark : StackHeights) : Type 0 where
  pub later : (T : Database) × (S ≡ M ++ T) × (stays_open 0 T ≡ true)
  pub closed : is_closed M ≡ true
  pub heights : mark ≡ heights_of (active M)
  pub typed_known : HaveCodes (symbols_of M) (typed_variables M)

-- these are the fields of `Rules` after the statements S, of which M are marked
pub record IsRulesState (S M : Database) (variable_stack typed_stack : List ℕ) (frame_statement_count : ℕ) (blocks : List StackHeights) (mark : StackHeights) : Type 0 where
  pub variables_are : variable_stack ≡ codes_or_len (symbols_of S) (active_variables S)
  pub typed_are : typed_stack ≡ codes_or_len (symbols_of S) (typed_variables S)
  pub typed_known : HaveCodes (symbols_of S) (typed_variables S)
  pub frame_statement_count_is : frame_statement_count ≡ length (frame_statements_of S)
  pub blocks_are : blocks ≡ blocks_of S
  pub never_closes_unopened : stays_open 0 S ≡ true
  pub marked : IsMarked S M mark

-- these are the other fields of a scope: the numbering and the count of its marked names, the
-- active `$f`, `$e` and `$d`, and the counts of statements
pub record IsScope (S M : Database) (names : Declared) (marked_names : ℕ) (frame_statements : List FrameStatement) (count marked_count : ℕ) : Type 0 where
  pub numbering : IsNumberingOf S names
  pub marked_numbering : IsNumberingOf M (take marked_names names)
  pub marked_within : marked_names ≤ length names
  pub frame_statements_are : frame_statements ≡ frame_statements_of S
  pub count_is : count ≡ length S
  pub marked_count_is : marked_count ≡ length M
