-- Slots in pages of 256.
-- Source: this project's representation.
-- The code has a list of pages. Contracts see one list of slots.
use Rattle.std.specs.Prelude.{◌≡◌, ◌≤◌, ◌-◌, ℕ, List, [], ◌∷◌, ◌++◌, Option, None, count_by, is_some, length, replicate}
use Rattle.slots.specs.declared.page.TheConstants.{PAGE_SLOTS}
use Rattle.slots.specs.declared.slots.TheConstants.{SLOTS}
use Rattle.slots.specs.FiniteMap.{front_of, top_of, trimmed}

-- all slots of a page: those stored, and empty ones up to the end of the page
abbrev pub padded : {T : Type 0} → List (Option T) → List (Option T)
padded stored = stored ++ replicate (PAGE_SLOTS - length stored) None

-- the invariant of `Page`: at most 256 slots are stored, in a vector with capacity for 256
pub record IsStoredPage {T : Type 0} (stored : List (Option T)) (capacity : ℕ) : Type 0 where
  pub within : length stored ≤ PAGE_SLOTS
  pub enough : PAGE_SLOTS ≤ capacity

-- the slots of all pages
abbrev pub joined : {T : Type 0} → List (List T) → List T
joined [] = []
joined (page ∷ pages) = page ++ joined pages

-- each page has 256 slots
abbrev pub AreFullSize : {T : Type 0} → List (List T) → Type 0
AreFullSize [] = Unit {0}
AreFullSize (page ∷ pages) = (length page ≡ PAGE_SLOTS) × AreFullSize pages

-- the invariant of `Slots`: at most SLOTS slots, and the stored front, top and number of entries are
-- those of the map
pub record AreSlots {T : Type 0} (slots : List (Option T)) (front top count : ℕ) : Type 0 where
  pub within : length slots ≤ SLOTS
  pub front_is : front ≡ front_of slots
  pub top_is : top ≡ top_of (trimmed slots)
  pub count_is : count ≡ count_by is_some slots
