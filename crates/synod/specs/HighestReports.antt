-- The report of the highest ballot at each slot, in a table, and the proposals of a new leader.
-- Source: Lamport, Paxos Made Simple, 2.2: the value of the highest-numbered proposal among the
-- responses.
-- The code has a table by slot, and reads the pages once. The definition searches one list of all
-- reports.
use Rattle.std.specs.Prelude.{◌≡◌, ◌<◌, ◌≤◌, ◌+◌, ◌-◌, ℕ, List, [], ◌∷◌, ◌++◌, Option, Some, None, length, map, take, drop, slice_index_or}
use Rattle.synod.specs.Words.{Bor, option_copied, SlotReport, SLOTS, Ballot, Packet}
use Rattle.synod.specs.declared.leading.Lead.{Lead}
use Rattle.synod.specs.Packets.{accept_posts}
use Rattle.synod.specs.Proposer.{highest_at, top_or_first, proposed_values}

-- the reports of all pages, in order
abbrev pub reports_of_pages : {V : Type 0} → List (Bor (List (SlotReport V))) → List (SlotReport V)
reports_of_pages [] = []
reports_of_pages (page ∷ pages) = page.now ++ reports_of_pages pages

-- the table has, for each slot from `first` on, the report of the highest ballot
abbrev pub IsHighestTable : {V : Type 0} → ℕ → List (Option (Bor (SlotReport V))) → List (SlotReport V) → Type 0
IsHighestTable first table reports = (k : ℕ) → k < length table → option_copied (slice_index_or table k None) ≡ highest_at (first + k) reports

-- the values as entries
abbrev pub as_entries : {V : Type 0} → List V → List (Option V)
as_entries values = map (λ v. Some v) values

-- the parts of `leads`: the posts, the next slot, and the number of waiting values that are
-- proposed
pub record IsLead {V : Type 0} (me : ℕ) (weights : List ℕ) (b : Ballot) (first : ℕ) (reports : List (SlotReport V)) (waiting : List V) (posts : List (Packet V)) (next proposed : ℕ) : Type 0 where
  pub posted : let top = top_or_first first reports in
      posts ≡ accept_posts me weights b first (proposed_values reports first (top - first)) ++ accept_posts me weights b top (as_entries (take (SLOTS - top) waiting))
  pub next_is : next ≡ top_or_first first reports + length (take (SLOTS - top_or_first first reports) waiting)
  pub still_waiting : drop proposed waiting ≡ drop (SLOTS - top_or_first first reports) waiting
  pub within : proposed ≤ length waiting

-- the fields of the lead are the parts of `leads`
abbrev pub IsLeadResult : {V : Type 0} → ℕ → List ℕ → Ballot → ℕ → List (SlotReport V) → List V → Lead V → Type 0
IsLeadResult me weights b first reports waiting lead = IsLead me weights b first reports waiting lead.posts.items lead.next lead.proposed
