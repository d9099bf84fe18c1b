-- The answer to `store K`: what the node keeps in its folder.
-- Source: this project's own form.
-- The code finds why the node is damaged, if it is, and appends one of two lines.
use Rattle.std.specs.Prelude.{ℕ, List, Option, Some, None, codes, if◌then◌else◌}
use Rattle.keep_folders.specs.StoredLines.{kept_line, damaged_line}
use Rattle.world.specs.declared.health.NodeStatus.{NodeStatus}

-- the answer, for a node with this status whose files have these bytes, and that may be damaged
abbrev pub store_text : ℕ → NodeStatus → Option (List ℕ) → List ℕ
store_text bytes status (Some damage) = damaged_line bytes damage
store_text bytes status None =
    kept_line bytes status.state.promise status.state.accepted (if status.is_down then codes "down" else codes "good")
