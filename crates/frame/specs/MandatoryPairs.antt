-- The mandatory pairs of an assertion as lists: each variable, with those before it that are
-- disjoint from it.
-- Metamath, 4.2.7: the mandatory `$d` of an assertion are pairs of its mandatory variables.
-- The code goes over the `$d` that have a variable, and so finds the others in another order.
use Rattle.std.specs.Prelude.{◌≡◌, ℕ, ◌==◌, Bool, true, false, if◌then◌else◌, List, [], ◌∷◌, ◌++◌, filter, slice_get, Some}
use Rattle.frame.specs.Words.{list_any, Hypothesis}
use Rattle.entries.specs.declared.assertion_view.Hypothesis.TheVariants.{Float, Essential}
use Rattle.frame.specs.ListsOfPairs.{is_numbered_pair}
use Rattle.frame.specs.Parts.{Numbered}

-- the number is in the list
abbrev pub has_number : List ℕ → ℕ → Bool
has_number list c = list_any (λ n. n == c) list

-- the numbers, and x if it is none of them
abbrev pub with_number : List ℕ → ℕ → List ℕ
with_number found x = if has_number found x then found else found ++ x ∷ []

-- the variables found, and those of the `$f`, in order, each once
abbrev pub with_floats : List ℕ → List Hypothesis → List ℕ
with_floats found [] = found
with_floats found (Float x ∷ hs) = with_floats (with_number found x) hs
with_floats found (Essential p ∷ hs) = with_floats found hs

-- the variables of the `$f`, in order, each once
abbrev pub float_variables : List Hypothesis → List ℕ
float_variables hs = with_floats [] hs

-- for each of the variables xs, in order: it, and those before it that are a pair with it
abbrev pub pair_lists : {A : Type 0} → (A → A → Bool) → List A → List A → List (List A)
pair_lists is_pair before [] = []
pair_lists is_pair before (x ∷ xs) = (x ∷ filter (is_pair x) before) ∷ pair_lists is_pair (before ++ x ∷ []) xs

-- the list has two or more items
abbrev pub has_two_or_more_items : {A : Type 0} → List A → Bool
has_two_or_more_items [] = false
has_two_or_more_items (x ∷ []) = false
has_two_or_more_items (x ∷ y ∷ xs) = true

-- the lists of the variables that have a pair with one before them
abbrev pub pairs_by : (ℕ → ℕ → Bool) → List ℕ → List (List ℕ)
pairs_by is_pair variables = filter has_two_or_more_items (pair_lists is_pair [] variables)

-- no number is twice in the list
abbrev pub IsEachOnce : List ℕ → Type 0
IsEachOnce [] = Unit {0}
IsEachOnce (x ∷ xs) = (has_number xs x ≡ false) × IsEachOnce xs

-- the list ys has the numbers of xs, each once, in any order
pub record HasEachOnce (xs ys : List ℕ) : Type 0 where
  pub each : (c : ℕ) → has_number ys c ≡ has_number xs c
  pub once : IsEachOnce ys

-- the second list has the same first number, and the same others, each once, in any order
abbrev pub IsReordered : List ℕ → List ℕ → Type 0
IsReordered (x ∷ xs) (y ∷ ys) = (y ≡ x) × HasEachOnce xs ys
IsReordered xs ys = ⊥

-- this holds for the lists one by one
abbrev pub AreReordered : List (List ℕ) → List (List ℕ) → Type 0
AreReordered [] [] = Unit {0}
AreReordered (xs ∷ lists) (ys ∷ made) = IsReordered xs ys × AreReordered lists made
AreReordered lists made = ⊥

-- these are the mandatory pairs of an assertion with these hypotheses, where v has the statements
-- before it: for each variable of a `$f` that has some, it and those before it
abbrev pub AreMandatoryPairs : Numbered → List Hypothesis → List (List ℕ) → Type 0
AreMandatoryPairs v hs lists = AreReordered (pairs_by (is_numbered_pair v) (float_variables hs)) lists

-- the list is that of the variable at an index; it alone, if it has no pair with one before it
pub record IsPairList (v : Numbered) (variables : List ℕ) (index : ℕ) (list : List ℕ) : Type 0 where
  pub whole : List ℕ
  pub stands : slice_get (pair_lists (is_numbered_pair v) [] variables) index ≡ Some whole
  pub reordered : IsReordered whole list
