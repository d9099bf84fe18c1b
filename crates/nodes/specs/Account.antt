-- The account of a lock: what was seen of the history when a moment was last recorded under it.
-- Source: this project's form.
use Rattle.std.specs.Prelude.{◌≡◌, ℕ, ◌<◌, Bool, true, List, ◌∷◌, [], ◌++◌}
use Rattle.logbook.specs.Pages.{Book, Named}
use Rattle.nodes.specs.Words.{IsPrefixOf}
use Rattle.nodes.specs.declared.moment.Moment.{Moment}
use Rattle.nodes.specs.Moments.{count_of, lock_count}
use Rattle.nodes.specs.Runs.{IsRun}
use Rattle.nodes.specs.Book.{word_of}

pub record AccountView : Type 0 where
  pub lock : ℕ
  pub belongs : Bool  -- whether all moments under the lock were recorded
  pub history : List Moment  -- the history as it was when a moment was last recorded

pub record IsAccount (book : Book) (word : Named) (count : ℕ) (belongs : Bool) (history : List Moment) : Type 0 where
  pub is_word : word ≡ word_of book word.key
  pub in_range : word.key < lock_count
  pub counted : belongs ≡ true → count_of word.key history ≡ count
  pub run : IsRun history

-- the moment may follow each history that begins with the account's and with what was seen, and has
-- no more moments of its lock
abbrev pub MayRecord : AccountView → List Moment → Moment → Type 0
MayRecord account seen m = (history : List Moment) → IsPrefixOf account.history history → IsPrefixOf seen history → IsRun history
    → count_of account.lock history ≡ count_of account.lock account.history → IsRun (history ++ m ∷ [])

-- the moment is recorded at the end of a history that begins with the account's and with what was
-- seen, and has no more moments of its lock; this history is seen then
pub record Records (old new : AccountView) (seen_old seen_new : List Moment) (m : Moment) : Type 0 where
  pub belonged : old.belongs ≡ true
  pub before : List Moment
  pub after_account : IsPrefixOf old.history before
  pub after_seen : IsPrefixOf seen_old before
  pub none_since : count_of old.lock before ≡ count_of old.lock old.history
  pub history : new.history ≡ before ++ m ∷ []
  pub seen : seen_new ≡ new.history
