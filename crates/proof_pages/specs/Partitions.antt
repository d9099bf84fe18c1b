-- Which of some positions a section of a page lists.
-- Source: this project's own form.
-- The code goes from one position to the next.
use Rattle.std.specs.Prelude.{ℕ, ◌+◌, ◌==◌, Bool, false, not, if◌then◌else◌, List, [], ◌∷◌, Option, Some, None}
use Rattle.scope.specs.Active.{is_essential}
use Rattle.proof_pages.specs.Words.{Name, Stmt, Database, stmt_at}
use Rattle.proof_pages.specs.Colours.{expr_numbers}
use Rattle.proof_pages.specs.Openings.{marked_at}
use Rattle.proof_pages.specs.Sections.{chosen}

-- there is a `$e` at the position
abbrev pub is_essential_or_none : Option Stmt → Bool
is_essential_or_none None = false
is_essential_or_none (Some s) = is_essential s

abbrev pub is_essential_at : Database → ℕ → Bool
is_essential_at S position = is_essential_or_none (stmt_at S position)

-- the value, or its negation if `wanted` is false
abbrev pub as_wanted : Bool → Bool → Bool
as_wanted wanted value = if wanted then value else not value

-- a position at which there is a `$e`, or none
abbrev pub chosen_essential : Database → Bool → ℕ → List ℕ
chosen_essential S wanted position = chosen (as_wanted wanted (is_essential_at S position)) position

-- a position that is marked, or not
abbrev pub chosen_marked : List Bool → Bool → ℕ → List ℕ
chosen_marked marks wanted position = chosen (as_wanted wanted (marked_at marks position)) position

-- the first symbol of an expression, or 0; 0 is no symbol here
abbrev pub first_or_zero : List ℕ → ℕ
first_or_zero [] = 0
first_or_zero (x ∷ e) = x + 1

-- the typecode of the statement at a position
abbrev pub typecode_at : List Name → Database → ℕ → ℕ
typecode_at names F position = first_or_zero (expr_numbers names F position)

-- a position whose statement has this typecode, or another one
abbrev pub chosen_typecode : List Name → Database → ℕ → Bool → ℕ → List ℕ
chosen_typecode names F typecode wanted position = chosen (as_wanted wanted (typecode_at names F position == typecode)) position
