-- The last results, one for each hypothesis of an assertion, and the images that they give.
-- Source: Metamath, 4.2.6.
-- The code has the verifier's results as numbers; the definitions of faults are about expressions.
use Rattle.std.specs.Prelude.{ℕ, ◌≤◌, List, length, map}
use Rattle.explain.specs.Words.{AllBelow, Expr, HeldResults, Hypothesis, Numbered, decode}
use Rattle.verify.specs.HypothesisResults.{AreGiven}
use Rattle.verify.specs.ResultPlaces.{top}

-- the last results, one for each of the hypotheses, by number
abbrev pub last_results : List Hypothesis → HeldResults → List (List ℕ)
last_results hs r = top (length hs) r.results.stack

-- the same by name
abbrev pub last_named : Numbered → List Hypothesis → HeldResults → List Expr
last_named f hs r = map (decode f.names) (last_results hs r)

-- there is a result for each of the hypotheses, and the images are those that they give
pub record AreRead (f : Numbered) (hs : List Hypothesis) (r : HeldResults) : Type 0 where
  pub count : length hs ≤ length r.results.stack
  pub below : AllBelow (length f.names) r.results.stack
  pub given : AreGiven hs (last_results hs r) r.images
