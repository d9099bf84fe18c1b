-- The book of the history (`logbook`): a word for each lock, with the number of moments recorded
-- under it.
-- Source: this project's form.
use Rattle.std.specs.Prelude.{◌≡◌, ℕ, ◌<◌, ◌==◌, true, List, [], ◌∷◌, ◌++◌, length, MatchBool}
use Rattle.logbook.specs.Pages.{Cell, Step, View, Book, Named, cell}
use Rattle.nodes.specs.Words.{IsPrefixOf}
use Rattle.nodes.specs.declared.moment.Moment.{Moment}
use Rattle.nodes.specs.Moments.{count_of, lock_count}
use Rattle.nodes.specs.Runs.{IsRun}

pub record IsKept (cells : List Cell) (history : List Moment) : Type 0 where
  pub size : length cells ≡ lock_count
  pub words : (lock : ℕ) → lock < length cells → cell cells lock ≡ (count_of lock history, true)
  pub run : IsRun history

-- the word of a lock
abbrev pub word_of : Book → ℕ → Named
word_of book lock = record { tracked = true; key = lock; book = book }

-- the moment is added to a history that begins with all that was seen, where this many were
-- recorded under its lock
pub record AddsTo (seen : List Moment) (lock count : ℕ) (m : Moment) (history : List Moment) : Type 0 where
  pub before : List Moment
  pub later : IsPrefixOf seen before
  pub counted : count_of lock before ≡ count
  pub is : history ≡ before ++ m ∷ []

-- a step that looks finds the number of moments under the lock, at the history so far
abbrev pub Looks : Step Moment → View Moment ℕ → ℕ → View Moment ℕ → Type 0
Looks s v found w = (count_of s.key w.0 ≡ found) × IsRun w.0

-- a step that adds the moment if it finds the number that it expects
abbrev pub Adds : Step Moment → View Moment ℕ → ℕ → View Moment ℕ → Type 0
Adds s v found w = MatchBool (found == s.old) (AddsTo v.0 s.key s.old s.ask w.0 × IsRun w.0) (IsRun w.0)

-- the moment may follow each history that begins with what was seen, where this many are recorded
-- under its lock
abbrev pub MayAdd : List Moment → ℕ → ℕ → Moment → Type 0
MayAdd seen lock count m = (history : List Moment) → IsPrefixOf seen history → IsRun history → count_of lock history ≡ count → IsRun (history ++ m ∷ [])
