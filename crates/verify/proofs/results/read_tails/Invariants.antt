use Rattle.verify.proofs.Words.{ℕ, List, drop, map, AreWithin, AreInside, images_at, symbols_in}
use Rattle.verify.specs.HypothesisResults.{AreGiven}
use Rattle.verify.proofs.results.read_tails.Given as goal

abbrev pub invariant-loop-k : goal.invariant-loop-k
invariant-loop-k l =
    ((symbols : List ℕ) → AreGiven (drop l.k l.hypotheses) (map (symbols_in symbols) (drop l.k l.places)) (images_at symbols l.images))
    × ((n : ℕ) → AreWithin n l.places → AreInside n l.images)
