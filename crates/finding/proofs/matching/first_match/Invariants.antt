use Rattle.finding.proofs.PatternPrelude.{◌≡◌, ℕ, ◌<◌, false, map, drop, matches_prefix}
use Rattle.finding.proofs.matching.first_match.Given as goal

abbrev pub invariant-loop-index : goal.invariant-loop-index
invariant-loop-index l = (k : ℕ) → k < l.index → matches_prefix l.segment (drop k (map (λ s. s.now) l.symbols)) ≡ false
