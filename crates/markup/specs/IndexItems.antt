-- The headings and the statements of a text, in order.
-- Source: Metamath, 4.1 (each statement but `${` and `$}` ends with `$.`) and 4.1.2 (comments); the
-- headings as in `Headings`.
-- The code goes from run to run.
use Rattle.std.specs.Prelude.{ℕ, ◌+◌, if◌then◌else◌, List, [], ◌∷◌, ◌++◌, Option, Some, None, codes}
use Rattle.mm_lex.specs.declared.span.Span.{Span}
use Rattle.mm_lex.specs.Alphabet.{Name, name_eq, runs, word}
use Rattle.markup.specs.Ends.{ends_statement}
use Rattle.markup.specs.Headings.{heading_of}
use Rattle.markup.specs.declared.items.IndexItem.{IndexItem}
use Rattle.markup.specs.declared.items.IndexItem.TheVariants.{Heading, Statement}
use Rattle.markup.specs.declared.items.Walk.{Walk}

-- a heading with its level and its title, or a statement with its index
pub data Item : Type 0 where
  heading : ℕ → List ℕ → Item
  statement : ℕ → Item

-- an item of the code
abbrev pub item_view : IndexItem → Item
item_view (Heading h) = heading h.level h.title.now
item_view (Statement index) = statement index

-- the heading, if there is one
abbrev pub heading_items : Option (ℕ × List ℕ) → List Item
heading_items None = []
heading_items (Some h) = heading h.0 h.1 ∷ []

-- what a run with the word w completes inside a comment that begins at `start`, and outside
abbrev pub items_inside : List ℕ → ℕ → Span → Name → List Item
items_inside text start run w = if name_eq w (codes "$)") then heading_items (heading_of (word text (record { start = start; end = run.start }))) else []

abbrev pub items_outside : ℕ → Name → List Item
items_outside ended w = if ends_statement w then statement ended ∷ [] else []

abbrev pub items_at : List ℕ → Option ℕ → ℕ → Span → List Item
items_at text (Some start) ended run = items_inside text start run (word text run)
items_at text None ended run = items_outside ended (word text run)

-- the heading of the comment that the run ends, or the statement that it ends
abbrev pub items_of_run : List ℕ → Walk → Span → List Item
items_of_run text walk run = items_at text walk.comment walk.ended run

-- the state after a run with the word w
abbrev pub comment_after : Option ℕ → Name → Span → Option ℕ
comment_after (Some start) w run = if name_eq w (codes "$)") then None else Some start
comment_after None w run = if name_eq w (codes "$(") then Some run.end else None

abbrev pub ended_after : Option ℕ → ℕ → Name → ℕ
ended_after (Some start) ended w = ended
ended_after None ended w = if ends_statement w then ended + 1 else ended

abbrev pub walk_after_run : Walk → Name → Span → Walk
walk_after_run walk w run = record { comment = comment_after walk.comment w run; ended = ended_after walk.comment walk.ended w }

-- what these runs complete
abbrev pub items_from : List ℕ → Walk → List Span → List Item
items_from text walk [] = []
items_from text walk (run ∷ spans) = items_of_run text walk run ++ items_from text (walk_after_run walk (word text run) run) spans

-- all items of a text
abbrev pub items_of : List ℕ → List Item
items_of text = items_from text (record { comment = None; ended = 0 }) (runs text)
