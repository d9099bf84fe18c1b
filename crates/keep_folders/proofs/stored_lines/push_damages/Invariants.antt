-- The lines of the nodes so far.
use Rattle.std.proofs.Common.{◌≡◌, ◌++◌, take, flat_map}
use Rattle.std.specs.Prelude.{option_map, string_bytes}
use Rattle.keep_folders.specs.StoredLines.{damage_text}
use Rattle.keep_folders.proofs.stored_lines.push_damages.Given as goal

abbrev pub invariant-loop-damage : goal.invariant-loop-damage
invariant-loop-damage l =
    l.text.items ≡ l.initial.text.items
    ++ flat_map (λ d. damage_text l.path (option_map (λ s. string_bytes s) d)) (take l.damage-index l.damages)
