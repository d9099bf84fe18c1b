-- A text whose first part was written to a writer, while the rest is still buffered.
-- Source: this project's own form.
-- The code writes when the buffer is full, and at the end.
use Rattle.std.specs.Prelude.{◌≡◌, ℕ, List, ◌++◌, Option}
use Rattle.std.specs.Io.KnownBytes.{Appends}

-- the text is what was written between the old and the new state of the writer, followed by what is
-- still buffered
pub record IsWrittenThenBuffered (old new : Option (List ℕ)) (buffered text : List ℕ) : Type 0 where
  pub written_bytes : List ℕ
  pub appends : Appends old new written_bytes
  pub whole : written_bytes ++ buffered ≡ text
