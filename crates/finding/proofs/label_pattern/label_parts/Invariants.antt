use Rattle.finding.proofs.PatternPrelude.{◌≡◌, ◌++◌, ◌∷◌, map, length, part_view, symbol}
use Rattle.finding.specs.LabelPatterns.{end_name, parts_to_end}
use Rattle.finding.proofs.label_pattern.label_parts.Given as goal

abbrev pub invariant-loop-byte : goal.invariant-loop-byte
invariant-loop-byte l = map part_view l.parts.items ++ parts_to_end l.rest ≡ symbol end_name ∷ parts_to_end l.pattern

abbrev pub decreases-loop-byte : goal.decreases-loop-byte
decreases-loop-byte l = length l.rest
