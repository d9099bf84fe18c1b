-- Whether a node may vote, by what is found of its database file.
-- Source: Lamport, Paxos Made Simple, 2.5: an acceptor keeps what it promised and accepted.
-- The code looks at the file once the witness is read.
use Rattle.std.specs.Prelude.{ℕ, Bool, true, false, Option, None, Some, nat_eq, nat_lt, if◌then◌else◌}

-- a new folder has no promise to lose; else the file has to be there, and to have bytes if the
-- witness of the node tells changes
abbrev pub may_vote : Bool → Option ℕ → ℕ → Bool
may_vote true file_bytes changes = true
may_vote false None changes = false
may_vote false (Some bytes) changes = if nat_eq changes 0 then true else nat_lt 0 bytes
