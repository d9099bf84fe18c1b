-- What happened in a cluster, moment by moment: the switch and the cells as they became under their
-- locks, and the stop.
-- Source: Lamport, Paxos Made Simple, section 3: the inputs of a state machine determine its run.
-- The code stores no such history: the threads share a word for each lock, with the number of
-- moments that were recorded under it.
use Rattle.std.specs.Prelude.{◌≡◌, ℕ, ◌+◌, ◌==◌, Bool, true, false, List, [], ◌∷◌, Option, Some, None, if◌then◌else◌}
use Rattle.nodes.specs.Words.{Carried, Cell, SwitchView}
use Rattle.nodes.specs.declared.moment.Moment.{Moment}
use Rattle.nodes.specs.declared.moment.Moment.TheVariants.{SwitchIs, CellIs, Ended}

-- The lock under which a moment is recorded: 0 is that of the switch, 1 that of the senders, and
-- 2 + k that of the cell of node k. A node's number is below 256.

abbrev pub lock_of : Moment → ℕ
lock_of (SwitchIs s) = 0
lock_of Ended = 1
lock_of (CellIs c) = 2 + c.node

abbrev pub lock_count : ℕ
lock_count = 258

-- how many moments were recorded under the lock
abbrev pub count_of : ℕ → List Moment → ℕ
count_of lock [] = 0
count_of lock (m ∷ ms) = (if lock_of m == lock then 1 else 0) + count_of lock ms

-- the last moment recorded under the lock, if there is one; `last` is the last one before these
abbrev pub last_from : ℕ → Option Moment → List Moment → Option Moment
last_from lock last [] = last
last_from lock last (m ∷ ms) = last_from lock (if lock_of m == lock then Some m else last) ms

abbrev pub last_at : ℕ → List Moment → Option Moment
last_at lock history = last_from lock None history

-- the switch, the cell of node k, and whether the cluster is stopped, at the end of the history

abbrev pub IsSwitchAt : List Moment → SwitchView Carried → Type 0
IsSwitchAt history switch = last_at 0 history ≡ Some (SwitchIs switch)

abbrev pub IsCellAt : List Moment → ℕ → Cell → Type 0
IsCellAt history k cell = last_at (2 + k) history ≡ Some (CellIs cell)

abbrev pub ended_if : Bool → Option Moment
ended_if true = Some Ended
ended_if false = None

abbrev pub IsStoppedAt : List Moment → Bool → Type 0
IsStoppedAt history is_stopped = last_at 1 history ≡ ended_if is_stopped
