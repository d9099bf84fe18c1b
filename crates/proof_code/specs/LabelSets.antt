-- Labels as a set.
-- Source: this project's choice.
-- The code makes the set of the mandatory labels once, and then looks up each listed label in it.
use Rattle.std.specs.Prelude.{◌≡◌, List}
use Rattle.std.specs.BTreeSet.{BTreeSet, contains}
use Rattle.std.specs.Ordering.{nat_cmp}
use Rattle.std.specs.Cmp.Lexicographic.{slice_cmp}
use Rattle.std.specs.Borrow.{Bor}
use Rattle.mm_lex.specs.Alphabet.{Name, has_name}

-- the set has exactly the labels of the list
abbrev pub IsLabelSet : BTreeSet (Bor Name) → List Name → Type 0
IsLabelSet names labels = (label : Bor Name) → contains (λ a b. slice_cmp nat_cmp a.now b.now) names label ≡ has_name label.now labels
