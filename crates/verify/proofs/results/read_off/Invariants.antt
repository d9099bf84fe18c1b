use Rattle.verify.proofs.Words.{ℕ, AreWithin, AreInside, HasSeenEssentialsBefore, ReadTo}
use Rattle.verify.proofs.results.read_off.Given as goal

abbrev pub invariant-loop-k : goal.invariant-loop-k
invariant-loop-k l =
    ReadTo l.k l.symbols l.typecodes l.hypotheses l.places l.images × ((n : ℕ) → AreWithin n l.places → AreInside n l.images) × HasSeenEssentialsBefore l.k l.hypotheses l.has_essentials
