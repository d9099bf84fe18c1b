use Rattle.std.proofs.Common.{◌-◌, ◌≤◌, map, length, drop}
use Rattle.finding.proofs.SegmentLemmas.{GoesOn}
use Rattle.finding.proofs.matching.is_in.Given as goal

abbrev pub invariant-segments : goal.invariant-segments
invariant-segments l = record {
  parts : l.from ≤ length l.parts;
  symbols : l.at ≤ length l.symbols;
  goes : GoesOn l.parts (drop l.from l.parts) (map (λ s. s.now) l.symbols) (drop l.at (map (λ s. s.now) l.symbols));
}

abbrev pub decreases-segments : goal.decreases-segments
decreases-segments l = length l.parts - l.from
