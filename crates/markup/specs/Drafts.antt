-- The rows of the index of a database.
-- Source: this project's own form.
-- The code appends the row of one item after another.
use Rattle.std.specs.Prelude.{ℕ, ◌+◌, Bool, false, if◌then◌else◌, List, [], ◌∷◌, length, Option, Some, None, slice_get, codes}
use Rattle.mm_read.specs.declared.stmt.Stmt.{Stmt}
use Rattle.mm_read.specs.declared.stmt.Stmt.TheVariants.{Axiom, Prove}
use Rattle.mm_read.specs.Statements.{Database}
use Rattle.markup.specs.IndexItems.{Item, heading, statement}
use Rattle.markup.specs.PagedRows.{Paged, paged_of, nothing, with_row}
use Rattle.markup.specs.Rows.{assertion_row, heading_row, part_entry}
use Rattle.markup.specs.declared.index_draft.IndexDraft.{IndexDraft}

-- the rows of headings and assertions, the entries of headings, and the number of headings
pub record IndexState : Type 0 where
  pub rows : Paged
  pub parts : Paged
  pub headings : ℕ

abbrev pub state_of : IndexDraft → IndexState
state_of draft = record { rows = paged_of draft.rows; parts = paged_of draft.parts; headings = draft.headings }

-- no row yet
abbrev pub start : IndexState
start = record { rows = nothing; parts = nothing; headings = 0 }

-- the kind of a `$a`; one that is marked is a theorem that is not proved
abbrev pub axiom_kind : Bool → List ℕ
axiom_kind unproved = if unproved then codes "theorem, not proved" else codes "axiom"

-- the mark at an index, or false
abbrev pub mark_or_false : Option Bool → Bool
mark_or_false None = false
mark_or_false (Some mark) = mark

abbrev pub marked_at : List Bool → ℕ → Bool
marked_at marks index = mark_or_false (slice_get marks index)

-- the row of one more assertion
abbrev pub with_assertion : IndexState → List ℕ → IndexState
with_assertion state row = record { rows = with_row state.rows row; parts = state.parts; headings = state.headings }

-- the row of one more statement, if it is an assertion
abbrev pub with_statement : IndexState → Bool → ℕ → Stmt → IndexState
with_statement state unproved index (Axiom label expr) = with_assertion state (assertion_row (axiom_kind unproved) label expr (index + 1))
with_statement state unproved index (Prove label expr proof) = with_assertion state (assertion_row (codes "theorem") label expr (index + 1))
with_statement state unproved index s = state

-- the row and the entry of one more heading; the entry leads to the page of the row
abbrev pub with_heading : IndexState → ℕ → List ℕ → IndexState
with_heading state level title =
    let rows = with_row state.rows (heading_row (state.headings + 1) level title) in
    record { rows = rows; parts = with_row state.parts (part_entry (length rows.full + 1) (state.headings + 1) level title); headings = state.headings + 1 }

-- the statement at an index, if there is one
abbrev pub with_option : IndexState → Bool → ℕ → Option Stmt → IndexState
with_option state unproved index None = state
with_option state unproved index (Some s) = with_statement state unproved index s

-- the row of one more item
abbrev pub with_item : Database → List Bool → IndexState → Item → IndexState
with_item S marks state (heading level title) = with_heading state level title
with_item S marks state (statement index) = with_option state (marked_at marks index) index (slice_get S index)

-- the rows of these items
abbrev pub with_items : Database → List Bool → IndexState → List Item → IndexState
with_items S marks state [] = state
with_items S marks state (item ∷ items) = with_items S marks (with_item S marks state item) items
