-- The page of the assertion with a label.
-- Source: this project's choice: each assertion of a site has a page.
-- The code finds a label in a table.
use Rattle.std.specs.Prelude.{ℕ, zero, suc, ◌+◌, ◌-◌, Bool, false, if◌then◌else◌, List, [], ◌∷◌, length, Option, Some, None}
use Rattle.mm_lex.specs.Alphabet.{Name}
use Rattle.mm_read.specs.declared.stmt.Stmt.{Stmt}
use Rattle.mm_read.specs.Statements.{Database}
use Rattle.scope.specs.Active.{stmt_at, label_of, has_label, is_assertion}

-- the position of the first statement with the label; the first statement of all has this position
abbrev pub position_from : ℕ → Database → Name → Option ℕ
position_from at [] label = None
position_from at (s ∷ S) label = if has_label label (label_of s) then Some at else position_from (at + 1) S label

abbrev pub position_in : Database → Name → Option ℕ
position_in S label = position_from 1 S label

-- there is an assertion at the position
abbrev pub is_assertion_or_none : Option Stmt → Bool
is_assertion_or_none None = false
is_assertion_or_none (Some s) = is_assertion s

abbrev pub is_assertion_at : Database → ℕ → Bool
is_assertion_at S at = is_assertion_or_none (stmt_at S at)

-- the position, if an assertion is there
abbrev pub assertion_page : Database → Option ℕ → Option ℕ
assertion_page S None = None
assertion_page S (Some at) = if is_assertion_at S at then Some at else None

-- the position of the assertion of S with the label, if the page is one of a site; F has the same
-- statements without their proofs
abbrev pub linked_page : Bool → Database → Database → Name → Option ℕ
linked_page linked S F label = if linked then assertion_page S (position_in F label) else None

-- the position of the last assertion before a position, if there is one
abbrev pub previous_of : Database → ℕ → Option ℕ
previous_of S zero = None
previous_of S (suc n) = if is_assertion_at S n then Some n else previous_of S n

-- the position of the first assertion among the n after the position `at`, if there is one
abbrev pub next_among : Database → ℕ → ℕ → Option ℕ
next_among S at zero = None
next_among S at (suc n) = if is_assertion_at S (at + 1) then Some (at + 1) else next_among S (at + 1) n

-- the position of the first assertion after a position, if there is one
abbrev pub next_of : Database → ℕ → Option ℕ
next_of S at = next_among S at (length S - at)
