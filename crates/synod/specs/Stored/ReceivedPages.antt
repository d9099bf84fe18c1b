-- The received pages, as the maps that store them.
-- Source: this project's representation.
-- The code has a map of pages for each node, with its capacity.
use Rattle.std.specs.Prelude.{ℕ, List, Option, map, slice_set}
use Rattle.synod.specs.Words.{SlotsView, put_at, SlotReport, Heard}
use Rattle.synod.specs.declared.promise_pages.PagesWithDelivered.{PagesWithDelivered}
use Rattle.synod.specs.Node.{pages_from, with_page}
use Rattle.synod.specs.Proposer.{all_reports}

-- the entries of each map
abbrev pub entries_of : {T : Type 0} → List (SlotsView T) → List (List (Option T))
entries_of maps = map (λ m. m.entries) maps

abbrev pub capacities_of : {T : Type 0} → List (SlotsView T) → List ℕ
capacities_of maps = map (λ m. m.capacity) maps

-- the pages with page i of node k put into the map of the node
abbrev pub put_page : {V : Type 0} → List (List (Option (List (SlotReport V)))) → ℕ → ℕ → List (SlotReport V) → List (List (Option (List (SlotReport V))))
put_page pages k i reports = slice_set pages k (put_at (pages_from pages k) i reports)

-- the pages received before, and the one just delivered
abbrev pub pages_after_delivery : {V : Type 0} → PagesWithDelivered V → List (List (Option (List (SlotReport V))))
pages_after_delivery w = with_page (entries_of w.pages.now) w.node w.page w.reports.now

-- the reports of all nodes heard, in the pages received before and the one just delivered
abbrev pub reports_after_delivery : {V : Type 0} → PagesWithDelivered V → List Heard → List (SlotReport V)
reports_after_delivery w heard = all_reports (pages_after_delivery w) heard
