-- Items encoded as numbers, with a table of labels.
-- Source: the numbers are those of Metamath, appendix B; 0 encodes the letter Z.
-- The code keeps the table and the numbers; contracts see the list of items.
use Rattle.std.specs.Prelude.{ℕ, zero, suc, ◌-◌, nat_lt, if◌then◌else◌, List, [], map, length, slice_index_or}
use Rattle.mm_lex.specs.Alphabet.{Name}
use Rattle.proof_code.specs.declared.item.Item.{Item}
use Rattle.proof_code.specs.declared.item.Item.TheVariants.{Cite, Recall, Mark}

-- the item of a number: 0 marks, a number up to the count of labels cites that label, counted from
-- 1, and a number that exceeds the count by k recalls the result of mark k
abbrev pub item_of : List Name → ℕ → Item
item_of labels zero = Mark
item_of labels (suc n) =
    if nat_lt n (length labels) then Cite (slice_index_or labels n []) else Recall (suc (n - length labels))

abbrev pub items_of : List Name → List ℕ → List Item
items_of labels numbers = map (item_of labels) numbers
