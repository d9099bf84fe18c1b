-- The mandatory pairs of a cited assertion, as lists that are kept with it or made one by one.
-- Metamath, 4.2.7: the mandatory `$d` of an assertion are pairs of its mandatory variables.
-- The code has one list at a time, with the numbers behind the first in any order.
use Rattle.std.specs.Prelude.{◌≡◌, ℕ, if◌then◌else◌, true, false, List, [], length, get_or, slice_get, Some}
use Rattle.verify.specs.Words.{Name}
use Rattle.frame.specs.Below.{AreBelow}
use Rattle.frame.specs.ListsOfPairs.{is_numbered_pair}
use Rattle.frame.specs.MandatoryPairs.{AreMandatoryPairs, IsReordered, float_variables, pair_lists, pairs_by}
use Rattle.frame.specs.Parts.{VariablePairs}
use Rattle.verify.specs.declared.disjointness.CitedPairs.{CitedPairs}

-- the lists of two variables or more if these are kept, else one list for each variable
abbrev pub cited_lists : CitedPairs → List (List ℕ)
cited_lists c =
    if c.are_kept
    then pairs_by (is_numbered_pair c.active) (float_variables c.hypotheses)
    else pair_lists (is_numbered_pair c.active) [] (float_variables c.hypotheses)

-- the assertion has these names, its variables are among them, and what is kept are its pairs
pub record AreCitedAt (names : List Name) (c : CitedPairs) : Type 0 where
  pub active : c.active.names ≡ names
  pub below : AreBelow (length names) (float_variables c.hypotheses)
  pub kept : c.are_kept ≡ true → AreMandatoryPairs c.active c.hypotheses c.kept

-- lists that are made are those of the variables of the assertion
pub record IsBegun (c : CitedPairs) (made : VariablePairs) : Type 0 where
  pub variables : c.are_kept ≡ false → made.variables ≡ float_variables c.hypotheses

-- the list at an index if it is kept, else that which was made last
abbrev pub list_of : CitedPairs → VariablePairs → ℕ → List ℕ
list_of c made i = if c.are_kept then get_or c.kept i [] else made.list

-- the list is that at an index, with the numbers behind the first in any order
pub record IsCitedList (c : CitedPairs) (i : ℕ) (list : List ℕ) : Type 0 where
  pub whole : List ℕ
  pub stands : slice_get (cited_lists c) i ≡ Some whole
  pub reordered : IsReordered whole list
