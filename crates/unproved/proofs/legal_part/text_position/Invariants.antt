use Rattle.std.proofs.Common.{◌≡◌, ◌+◌, ◌<◌, ◌^◌, drop, length}
use Rattle.unproved.specs.LegalPart.{text_position}
use Rattle.unproved.proofs.legal_part.text_position.Given as goal

abbrev pub invariant-loop-left : goal.invariant-loop-left
invariant-loop-left l = l.at + length l.left_out < 2 ^ 64 → (l.position + length (drop l.left-index l.left_out) < 2 ^ 64) × (text_position l.left_out l.at ≡ text_position (drop l.left-index l.left_out) l.position)
