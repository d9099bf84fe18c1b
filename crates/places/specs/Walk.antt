-- The descriptions of a text, as a walk over its runs finds them.
-- Source: this project's choice; for the private functions of `description`.
use Rattle.std.specs.Prelude.{◌≡◌, ℕ, ◌≤◌, true, false, if◌then◌else◌, List, [], ◌∷◌, ◌++◌, length, Option, Some, None}
use Rattle.mm_lex.specs.declared.span.Span.{Span}
use Rattle.mm_lex.specs.Alphabet.{Name, name_eq, word}
use Rattle.mm_lex.specs.Comments.{runs_after}
use Rattle.mm_lex.specs.Tokens.{opener, closer}
use Rattle.places.specs.declared.description.WalkState.{WalkState}
use Rattle.places.specs.declared.description.WalkState.TheVariants.{Inside, Outside}
use Rattle.places.specs.TokenSpans.{ends_statement}

-- the state at the beginning of a text
abbrev pub at_start : WalkState
at_start = Outside None true

-- the state after one more run, whose word is w
abbrev pub state_after_run : WalkState → Name → Span → WalkState
state_after_run (Inside start next_begins_statement) w run = if name_eq w closer then Outside (Some (record { start = start; end = run.start })) next_begins_statement else Inside start next_begins_statement
state_after_run (Outside last_comment next_begins_statement) w run = if name_eq w opener then Inside run.end next_begins_statement else Outside None (ends_statement w)

-- if a statement begins with the word w, its description as a list of one, else the empty list
abbrev pub description_of_begun_statement : WalkState → Name → List (Option Span)
description_of_begun_statement (Inside start next_begins_statement) w = []
description_of_begun_statement (Outside last_comment next_begins_statement) w = if name_eq w opener then [] else if next_begins_statement then last_comment ∷ [] else []

-- the descriptions of all statements that begin with one of the runs
abbrev pub walk_over : List ℕ → WalkState → List Span → List (Option Span)
walk_over text walk [] = []
walk_over text walk (r ∷ spans) = description_of_begun_statement walk (word text r) ++ walk_over text (state_after_run walk (word text r) r) spans

-- only a run that begins with `$` changes the walk or begins a statement
abbrev pub CanSkip : WalkState → Type 0
CanSkip (Inside start next_begins_statement) = Unit {0}
CanSkip (Outside None next_begins_statement) = next_begins_statement ≡ false
CanSkip (Outside (Some last_comment) next_begins_statement) = ⊥

-- a walk that can skip finds the same descriptions from `later` on as from `at` on
pub record SkipsRuns (text : List ℕ) (at later : ℕ) : Type 0 where
  pub order : at ≤ later
  pub within : later ≤ length text
  pub same : (walk : WalkState) → CanSkip walk → walk_over text walk (runs_after text at) ≡ walk_over text walk (runs_after text later)
