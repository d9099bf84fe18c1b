-- A message to all nodes, or to all others.
-- Source: Lamport, Paxos Made Simple, 2.2 and 2.3.
-- The code borrows the value, and copies it once for each packet with it.
use Rattle.std.specs.Prelude.{ℕ, Bool, true, false, ◌==◌, List, [], ◌∷◌, if◌then◌else◌}
use Rattle.synod.specs.Words.{Packet, Body, Prepare, Accept, Accepted, Ask}
use Rattle.synod.specs.declared.posts.Broadcast.{Broadcast}
use Rattle.synod.specs.Packets.{packet, to_all_from, to_others_from}
use Rattle.synod.specs.declared.posts.Broadcast.TheVariants.{Prepare as ToPrepare, Accept as ToAccept, Accepted as ToAccepted, Ask as ToAsk}

abbrev pub body_of : {V : Type 0} → Broadcast V → Body V
body_of (ToPrepare b first) = Prepare b first
body_of (ToAccept b s v) = Accept b s v.now
body_of (ToAccepted b s v) = Accepted b s v.now
body_of (ToAsk s) = Ask s

-- whether the message is an Ask, which is not sent to the sender
abbrev pub is_ask : {V : Type 0} → Broadcast V → Bool
is_ask (ToPrepare b first) = false
is_ask (ToAccept b s v) = false
is_ask (ToAccepted b s v) = false
is_ask (ToAsk s) = true

-- the packet to one node; if the flag is true, none to the sender itself
abbrev pub to_node : {V : Type 0} → Bool → ℕ → ℕ → Body V → List (Packet V)
to_node false from to body = packet from to body ∷ []
to_node true from to body = if to == from then [] else (packet from to body ∷ [])

-- the packets to the nodes from k on
abbrev pub to_nodes_from : {V : Type 0} → Bool → ℕ → Body V → ℕ → List ℕ → List (Packet V)
to_nodes_from false me body k ws = to_all_from me body k ws
to_nodes_from true me body k ws = to_others_from me body k ws

-- the packets of a message
abbrev pub broadcast_posts : {V : Type 0} → ℕ → List ℕ → Broadcast V → List (Packet V)
broadcast_posts me weights message = to_nodes_from (is_ask message) me (body_of message) 0 weights
