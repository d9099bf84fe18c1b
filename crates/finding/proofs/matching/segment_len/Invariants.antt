use Rattle.finding.proofs.PatternPrelude.{◌≡◌, ◌+◌, drop, segment_len}
use Rattle.finding.proofs.matching.segment_len.Given as goal

abbrev pub invariant-loop-i : goal.invariant-loop-i
invariant-loop-i l = segment_len l.parts ≡ l.i + segment_len (drop l.i l.parts)
