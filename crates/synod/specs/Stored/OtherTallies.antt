-- The votes under ballots other than the one first counted at a slot, in the order in which their
-- ballots were first counted.
-- Source: this project's representation.
-- The code has the tally of the first ballot at each slot in a map, and all others in one table by
-- slot and ballot.
use Rattle.std.specs.Prelude.{◌≡◌, ◌≤◌, ℕ, suc, length, ◌==◌, ◌&&◌, Bool, List, [], ◌∷◌, Option, Some, None, if◌then◌else◌}
use Rattle.synod.specs.Words.{entry_at, SLOTS, Ballot, Tally}
use Rattle.synod.specs.Ballots.{is_same}
use Rattle.synod.specs.Learner.{no_voters}

abbrev pub tally : Ballot → List Bool → Tally
tally b voters = record { ballot = b; voters = voters }

-- the tallies of a slot in the table
abbrev pub other_tallies_at : List ((ℕ × Ballot) × List Bool) → ℕ → List Tally
other_tallies_at [] s = []
other_tallies_at (e ∷ es) s = if s == e.0.0 then (tally e.0.1 e.1 ∷ other_tallies_at es s) else other_tallies_at es s

-- the nodes that the table has at a slot under a ballot
abbrev pub voters_among : List ((ℕ × Ballot) × List Bool) → ℕ → Ballot → List Bool
voters_among [] s b = no_voters
voters_among (e ∷ es) s b = if (s == e.0.0) && is_same b e.0.1 then e.1 else voters_among es s b

-- the tallies of the slots from s on, for each slot that of the first ballot before those in the
-- table
abbrev pub tallies_from : ℕ → List (Option Tally) → (ℕ → List Tally) → List (Option (List Tally))
tallies_from s [] other_tallies = []
tallies_from s (None ∷ firsts) other_tallies = None ∷ tallies_from (suc s) firsts other_tallies
tallies_from s (Some t ∷ firsts) other_tallies = Some (t ∷ other_tallies s) ∷ tallies_from (suc s) firsts other_tallies

-- a slot without a first tally has none in the table, and no value is learned at a slot from SLOTS
-- on
pub record IsLearner {T : Type 0} (firsts : List (Option Tally)) (other_tallies : ℕ → List Tally) (learned : List (Option T)) : Type 0 where
  pub first : (s : ℕ) → entry_at firsts s ≡ None → other_tallies s ≡ []
  pub within : length learned ≤ SLOTS
