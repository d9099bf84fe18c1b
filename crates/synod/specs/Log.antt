-- The log of a node: the learned values up to the first gap.
-- Source: Lamport, Paxos Made Simple, section 3: a command is executed once all before it are
-- known.
-- The code stores the length of the log.
use Rattle.std.specs.Prelude.{ℕ, List, Option}
use Rattle.synod.specs.Words.{entries_to_gap, front_of}
use Rattle.synod.specs.Node.{Node}

-- the values learned at the slots 0 to m - 1, for the greatest such m
abbrev pub log_of : {V : Type 0} → Node V → List (Option V)
log_of n = entries_to_gap n.learned

-- the length of the log: m
abbrev pub log_length : {V : Type 0} → Node V → ℕ
log_length n = front_of n.learned
