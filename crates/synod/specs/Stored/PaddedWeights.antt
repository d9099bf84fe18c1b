-- The array of nine elements that stores the weights.
-- Source: this project's representation.
-- The elements after the last weight are 0, so the list of weights determines all nine.
use Rattle.std.specs.Prelude.{◌≡◌, ◌≤◌, ◌-◌, ℕ, List, ◌++◌, length, take, replicate}
use Rattle.synod.specs.Words.{MAX_NODES}
use Rattle.synod.specs.Weights.{IsWeights}

abbrev pub padded : List ℕ → List ℕ
padded weights = weights ++ replicate (MAX_NODES - length weights) 0

pub record ArePadded (count : ℕ) (padded_weights : List ℕ) : Type 0 where
  pub weights : IsWeights (take count padded_weights)
  pub few : count ≤ MAX_NODES
  pub length_is : length (take count padded_weights) ≡ count
  pub padding : padded (take count padded_weights) ≡ padded_weights
