-- A finite map from slots to entries.
-- Source: the log of Lamport's Paxos Made Simple, section 3, where each instance of the algorithm
-- has a number.
-- The code has pages of options. Here a map is a list of options, by slot, that is empty or ends in
-- an entry.
use Rattle.std.specs.Prelude.{ℕ, zero, suc, List, [], ◌∷◌, Option, Some, None, length}

-- the entry at slot s; None if the slot is empty
abbrev pub entry_at : {T : Type 0} → List (Option T) → ℕ → Option T
entry_at [] s = None
entry_at (x ∷ xs) zero = x
entry_at (x ∷ xs) (suc s) = entry_at xs s

-- the map with the entry v at slot s
abbrev pub put_at : {T : Type 0} → List (Option T) → ℕ → T → List (Option T)
put_at [] zero v = Some v ∷ []
put_at [] (suc s) v = None ∷ put_at [] s v
put_at (x ∷ xs) zero v = Some v ∷ xs
put_at (x ∷ xs) (suc s) v = x ∷ put_at xs s v

-- the entries before the first gap, that is, before the least empty slot
abbrev pub entries_to_gap : {T : Type 0} → List (Option T) → List T
entries_to_gap [] = []
entries_to_gap (None ∷ xs) = []
entries_to_gap (Some x ∷ xs) = x ∷ entries_to_gap xs

-- the least empty slot
abbrev pub front_of : {T : Type 0} → List (Option T) → ℕ
front_of xs = length (entries_to_gap xs)

-- one above the greatest slot with an entry, or 0 if there are no entries; this is the length,
-- since a map that is not empty ends in an entry
abbrev pub top_of : {T : Type 0} → List (Option T) → ℕ
top_of xs = length xs

-- how many entries a map gains by an entry that is put where this was
abbrev pub added_to : {T : Type 0} → Option T → ℕ
added_to None = 1
added_to (Some x) = 0

-- a slot put before a trimmed list: the empty list if the slot and the list are empty. It removes
-- no slot of the list.
abbrev pub with_head : {T : Type 0} → Option T → List (Option T) → List (Option T)
with_head None [] = []
with_head None (y ∷ ys) = None ∷ y ∷ ys
with_head (Some v) ys = Some v ∷ ys

-- the list without the empty slots at its end
abbrev pub trimmed : {T : Type 0} → List (Option T) → List (Option T)
trimmed [] = []
trimmed (x ∷ xs) = with_head x (trimmed xs)

-- `Slots` as contracts see it: the map, and the number of slots, from 0 on, for which memory is
-- reserved
pub record SlotsView (T : Type 0) : Type 0 where
  pub entries : List (Option T)
  pub capacity : ℕ
