-- The accepted entries of a record with one more slot copied.
-- Source: this project's choice.
-- The code copies a record slot by slot. A slot without an entry adds nothing.
use Rattle.std.specs.Prelude.{ℕ, List, Option, Some, None}
use Rattle.slots.specs.FiniteMap.{put_at}

abbrev pub with_copied_slot : {T : Type 0} → List (Option T) → ℕ → Option T → List (Option T)
with_copied_slot xs s None = xs
with_copied_slot xs s (Some v) = put_at xs s v
