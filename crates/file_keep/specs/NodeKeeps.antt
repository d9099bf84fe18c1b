-- The keep of a node whose file is closed after a failed call and opened again by a load.
-- Source: this project's form.
use Rattle.std.specs.Prelude.{ℕ, Bool, false, Option, Some, None}
use Rattle.synod.specs.Record.{new_kept}
use Rattle.file_keep.specs.Words.{KeptPart}
use Rattle.file_keep.specs.Rows.{Content}
use Rattle.file_keep.specs.Keeps.{WitnessedView}

-- The keep if its file is open, its content if it is closed, and neither if the node is damaged;
-- and how many of its calls failed.
pub record NodeView (V S : Type 0) : Type 0 where
  pub open_keep : Option (WitnessedView V S)
  pub closed : Option (Content V)
  pub failures : ℕ

-- the kept part of a keep that is not open; of a damaged node nothing is known
abbrev pub kept_closed : {V : Type 0} → Option (Content V) → KeptPart V
kept_closed None = new_kept
kept_closed (Some content) = content.kept

-- the file is open, and its last commit says the kept part
abbrev pub is_settled_in : {V S : Type 0} → Option (WitnessedView V S) → Bool
is_settled_in None = false
is_settled_in (Some node) = node.keep.is_settled

-- the kept part of a node's keep
abbrev pub kept_of : {V S : Type 0} → Option (WitnessedView V S) → Option (Content V) → KeptPart V
kept_of None closed = kept_closed closed
kept_of (Some node) closed = node.keep.content.kept
