-- The state that a core reports is that of its node in the world after the events.
use Rattle.net.proofs.Words.{◌≡◌, ℕ, ◌<◌, List, length, get_or, Option, Some, Result, ap, sym, ◌∙◌, Packet, Node, Core, StepFault, World, option_map, History, AreOfWorld, world_of}
use Rattle.synod.specs.State.{state_of}
use Rattle.net.specs.NodeStates.{state_after}
use Rattle.net.proofs.HistoryLemmas.{node_shown}

-- the state that the core at number k reports is that of node k in the world after the history
pub state_shown : {V : Type 0} (size : V → ℕ) (old now : History V) (cores : List (Core V)) (packets : List (Packet V)) (h : AreOfWorld size old cores packets) → old ≡ now
    → (k : ℕ) (core : Core V) → k < length cores → core ≡ get_or cores k core → state_after (world_of size now) k ≡ Some (state_of core.node)
state_shown {V} size old now cores packets h seen k core low at =
    ap (λ (t : History V). state_after (world_of size t) k) (sym seen)
    ∙ ap (λ (r : Result (World V) StepFault). state_after r k) h.is_after
    ∙ ap (λ (o : Option (Node V)). option_map (λ n. state_of n) o) (node_shown size old cores packets h k core low at)
