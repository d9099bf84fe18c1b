use Rattle.verify.proofs.Words.{◌≡◌, ℕ, ◌<◌, [], length, map, get_or, slice_get, Some, decode, images_of_names, Hypothesis, HypothesisMatches, top}
use Rattle.verify.proofs.results.Results.hypotheses_match.Given as goal

abbrev pub invariant-loop-k : goal.invariant-loop-k
invariant-loop-k l =
    (j : ℕ) (h : Hypothesis) → j < l.k → slice_get l.hypotheses j ≡ Some h
    → HypothesisMatches l.frames.statements (images_of_names l.frames.names l.self.images) h (get_or (map (decode l.frames.names) (top (length l.hypotheses) l.self.results.stack)) j [])
