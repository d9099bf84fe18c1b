-- Slots with an entry, counted one after another.
use Rattle.std.proofs.Common.{◌≡◌, ◌∙◌, ◌+◌, ◌<◌, ℕ, List, Option, None, ap, false, length, take, true, sym}
use Rattle.std.specs.Prelude.{count_by, is_some}
use Rattle.std.proofs.lemmas.List.Sums.{count_by_more_no, count_by_more_yes}
use Rattle.slots.specs.FiniteMap.{entry_at}
use Rattle.slots.proofs.FiniteMapLemmas.{entry_at-get_or}

-- one more slot that has an entry
pub count_more : {T : Type 0} (xs : List (Option T)) (s : ℕ) → s < length xs → is_some (entry_at xs s) ≡ true
    → count_by is_some (take (s + 1) xs) ≡ count_by is_some (take s xs) + 1
count_more xs s low has = count_by_more_yes is_some xs s None low (ap is_some (sym (entry_at-get_or xs s None low)) ∙ has)

-- one more slot that is empty
pub count_same : {T : Type 0} (xs : List (Option T)) (s : ℕ) → s < length xs → is_some (entry_at xs s) ≡ false
    → count_by is_some (take (s + 1) xs) ≡ count_by is_some (take s xs)
count_same xs s low has = count_by_more_no is_some xs s None low (ap is_some (sym (entry_at-get_or xs s None low)) ∙ has)
