use Rattle.finding.proofs.PatternPrelude.{◌≡◌, map, drop, matches_prefix}
use Rattle.finding.proofs.matching.matches_prefix.Given as goal

abbrev pub invariant-loop-i : goal.invariant-loop-i
invariant-loop-i l = matches_prefix l.segment (map (λ s. s.now) l.symbols) ≡ matches_prefix (drop l.i l.segment) (drop l.i (map (λ s. s.now) l.symbols))
