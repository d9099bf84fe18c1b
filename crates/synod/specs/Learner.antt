-- The learner: the votes that it counts, and the values that it learns and tells.
-- Source: Lamport, Paxos Made Simple, 2.3.
-- The code has the tally of the first ballot at each slot in a map, and all others in a table. A
-- tally is a ballot and the nodes whose votes under it were counted.
use Rattle.std.specs.Prelude.{ℕ, Bool, false, true, nat_lt, List, [], ◌∷◌, Option, Some, None, slice_set, slice_index_or, replicate, if◌then◌else◌}
use Rattle.synod.specs.Words.{SLOTS, entry_at, put_at, MAX_NODES, Ballot, Packet, Ask, Told, Tally}
use Rattle.synod.specs.Weights.{is_quorum}
use Rattle.synod.specs.Ballots.{is_same}
use Rattle.synod.specs.Packets.{packet, to_others}
use Rattle.synod.specs.Node.{Node, StepResult, unchanged, volatile_step}
use Rattle.synod.specs.Log.{log_length}

-- voters are a list with a mark for each node
abbrev pub is_voter : List Bool → ℕ → Bool
is_voter voters k = slice_index_or voters k false

abbrev pub with_voter : List Bool → ℕ → List Bool
with_voter voters k = slice_set voters k true

abbrev pub no_voters : List Bool
no_voters = replicate MAX_NODES false

-- node k is counted under the ballot
abbrev pub voted_in : List Tally → Ballot → ℕ → Bool
voted_in [] b k = false
voted_in (t ∷ ts) b k = if is_same t.ballot b then is_voter t.voters k else voted_in ts b k

-- the tallies of one slot with node k counted under the ballot
abbrev pub counted_in : List Tally → Ballot → ℕ → List Tally
counted_in [] b k = record { ballot = b; voters = with_voter no_voters k } ∷ []
counted_in (t ∷ ts) b k =
    if is_same t.ballot b then (record { ballot = t.ballot; voters = with_voter t.voters k } ∷ ts) else (t ∷ counted_in ts b k)

abbrev pub tallies_at : Option (List Tally) → List Tally
tallies_at None = []
tallies_at (Some ts) = ts

-- node k is counted at the slot under the ballot
abbrev pub has_voter : List (Option (List Tally)) → ℕ → Ballot → ℕ → Bool
has_voter tallies s b k = voted_in (tallies_at (entry_at tallies s)) b k

-- the tallies with node k counted at the slot under the ballot; counting it again changes nothing
abbrev pub counted : List (Option (List Tally)) → ℕ → Ballot → ℕ → List (Option (List Tally))
counted tallies s b k = put_at tallies s (counted_in (tallies_at (entry_at tallies s)) b k)

abbrev pub learns : {V : Type 0} → Node V → ℕ → Option V → Node V
learns n s v = record n { learned = put_at n.learned s v }

-- if `gap`, the first gap of the node, is below slot s, all other nodes are asked for it
abbrev pub asks_below : {V : Type 0} → Node V → ℕ → ℕ → List (Packet V)
asks_below n s gap = if nat_lt gap s then to_others n.me n.weights (Ask gap) else []

abbrev pub asks_others_for_first_gap : {V : Type 0} → Node V → ℕ → List (Packet V)
asks_others_for_first_gap n s = asks_below n s (log_length n)

-- a chosen value is learned, and all other nodes are asked for the first gap if it is below the
-- slot
abbrev pub learns_chosen : {V : Type 0} → Node V → ℕ → Option V → StepResult V
learns_chosen n s v = volatile_step (learns n s v) (asks_others_for_first_gap (learns n s v) s)

-- the step of a node n that has counted the vote: if the nodes counted at slot s under ballot b are
-- a quorum, v is chosen and learned
abbrev pub counts : {V : Type 0} → Node V → Ballot → ℕ → Option V → StepResult V
counts n b s v = if is_quorum n.weights (has_voter n.tallies s b) then learns_chosen n s v else unchanged n

abbrev pub on_accepted_at : {V : Type 0} → Option (Option V) → Node V → ℕ → Ballot → ℕ → Option V → StepResult V
on_accepted_at (Some u) n p b s v = unchanged n
on_accepted_at None n p b s v = counts (record n { tallies = counted n.tallies s b p }) b s v

-- Accepted(b, s, v) from p: the vote of p is counted, unless a value is learned at the slot
abbrev pub on_accepted : {V : Type 0} → Node V → ℕ → Ballot → ℕ → Option V → StepResult V
on_accepted n p b s v = on_accepted_at (entry_at n.learned s) n p b s v

abbrev pub on_ask_at : {V : Type 0} → Option (Option V) → Node V → ℕ → ℕ → StepResult V
on_ask_at None n p s = unchanged n
on_ask_at (Some v) n p s = volatile_step n (packet n.me p (Told s v) ∷ [])

-- Ask(s) from p: the value learned at the slot is sent to p, if there is one
abbrev pub on_ask : {V : Type 0} → Node V → ℕ → ℕ → StepResult V
on_ask n p s = on_ask_at (entry_at n.learned s) n p s

-- p is asked for `gap`, the first gap of the node, unless the log is full
abbrev pub asks_for : {V : Type 0} → Node V → ℕ → ℕ → List (Packet V)
asks_for n p gap = if nat_lt gap SLOTS then (packet n.me p (Ask gap) ∷ []) else []

abbrev pub asks_sender_for_first_gap : {V : Type 0} → Node V → ℕ → List (Packet V)
asks_sender_for_first_gap n p = asks_for n p (log_length n)

abbrev pub learns_told : {V : Type 0} → Node V → ℕ → ℕ → Option V → StepResult V
learns_told n p s v = volatile_step (learns n s v) (asks_sender_for_first_gap (learns n s v) p)

abbrev pub on_told_at : {V : Type 0} → Option (Option V) → Node V → ℕ → ℕ → Option V → StepResult V
on_told_at (Some u) n p s v = unchanged n
on_told_at None n p s v = learns_told n p s v

-- Told(s, v) from p: the value is learned, unless a value is learned at the slot
abbrev pub on_told : {V : Type 0} → Node V → ℕ → ℕ → Option V → StepResult V
on_told n p s v = on_told_at (entry_at n.learned s) n p s v
