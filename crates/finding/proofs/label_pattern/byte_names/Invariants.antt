use Rattle.finding.proofs.PatternPrelude.{◌≡◌, ◌++◌, ◌∷◌, map, length}
use Rattle.finding.specs.LabelPatterns.{end_name, names_to_end}
use Rattle.finding.proofs.label_pattern.byte_names.Given as goal

abbrev pub invariant-loop-byte : goal.invariant-loop-byte
invariant-loop-byte l = map (λ n. n.now) l.names.items ++ names_to_end l.rest ≡ end_name ∷ names_to_end l.label

abbrev pub decreases-loop-byte : goal.decreases-loop-byte
decreases-loop-byte l = length l.rest
