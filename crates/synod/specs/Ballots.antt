-- The order of ballots: by round, then by node.
-- Source: Lamport, Paxos Made Simple, 2.2 and 2.5, where different proposers use different numbers.
-- The code compares the two numbers of a ballot in turn, as here.
use Rattle.std.specs.Prelude.{Bool, ◌==◌, nat_lt, ◌&&◌, ◌||◌}
use Rattle.synod.specs.Words.{Ballot}

-- a is lower than b
abbrev pub is_below : Ballot → Ballot → Bool
is_below a b = nat_lt a.round b.round || ((a.round == b.round) && nat_lt a.node b.node)

abbrev pub is_same : Ballot → Ballot → Bool
is_same a b = (a.round == b.round) && (a.node == b.node)

-- the promise of a new node
abbrev pub zero_ballot : Ballot
zero_ballot = record { round = 0; node = 0 }
