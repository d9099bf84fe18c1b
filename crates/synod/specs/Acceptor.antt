-- The acceptor: its promises and its accepted entries.
-- Source: Lamport, Paxos Made Simple, 2.2: phases 1(b) and 2(b), and its end, on informing a
-- refused proposer.
-- The code makes the pages of a promise directly from the slots. Here the list of all reports is
-- cut into pages.
use Rattle.std.specs.Prelude.{ℕ, suc, nat_lt, List, [], ◌∷◌, Option, Some, None, length, if◌then◌else◌}
use Rattle.synod.specs.Words.{put_at, Ballot, SlotReport, Packet, Promise, Accepted, Nack, AcceptedEntry, Entry}
use Rattle.synod.specs.declared.change.Change.TheVariants.{Promise as PromiseChange}
use Rattle.synod.specs.Ballots.{is_below}
use Rattle.synod.specs.Packets.{packet, to_all}
use Rattle.synod.specs.PromisePages.{pages_of}
use Rattle.synod.specs.Node.{Node, StepResult, volatile_step}

-- the reports of the slots from first on, where the list begins at slot s
abbrev pub reports_from : {V : Type 0} → ℕ → ℕ → List (Option (AcceptedEntry V)) → List (SlotReport V)
reports_from first s [] = []
reports_from first s (None ∷ entries) = reports_from first (suc s) entries
reports_from first s (Some entry ∷ entries) =
    if nat_lt s first
    then reports_from first (suc s) entries
    else (record { slot = s; ballot = entry.ballot; value = entry.value } ∷ reports_from first (suc s) entries)

-- the packets of a promise to p, one for each page, numbered from i
abbrev pub promise_posts_from : {V : Type 0} → ℕ → ℕ → Ballot → ℕ → ℕ → List (List (SlotReport V)) → List (Packet V)
promise_posts_from me p b count i [] = []
promise_posts_from me p b count i (page ∷ pages) = packet me p (Promise b i count page) ∷ promise_posts_from me p b count (suc i) pages

abbrev pub promise_posts : {V : Type 0} → ℕ → ℕ → Ballot → List (List (SlotReport V)) → List (Packet V)
promise_posts me p b pages = promise_posts_from me p b (length pages) 1 pages

-- the ballot is promised to p, with the entries accepted from first on
abbrev pub promises : {V : Type 0} → Node V → ℕ → Ballot → ℕ → StepResult V
promises n p b first = record {
  node = record n { promise = b };
  change = Some (PromiseChange b);
  posts = promise_posts n.me p b (pages_of (reports_from first 0 n.accepted));
}

-- ballot b of p is refused: p is told which ballot this node has promised
abbrev pub sends_nack : {V : Type 0} → Node V → ℕ → Ballot → StepResult V
sends_nack n p b = volatile_step n (packet n.me p (Nack b n.promise) ∷ [])

-- Prepare(b, first) from p: the ballot is promised if it is above the promise, else refused
abbrev pub on_prepare : {V : Type 0} → Node V → ℕ → Ballot → ℕ → StepResult V
on_prepare n p b first = if is_below n.promise b then promises n p b first else sends_nack n p b

abbrev pub accepted_entry : {V : Type 0} → Ballot → Option V → AcceptedEntry V
accepted_entry b v = record { ballot = b; value = v }

-- the value is accepted, and its ballot becomes the promise
abbrev pub accepts_value : {V : Type 0} → Node V → Ballot → ℕ → Option V → StepResult V
accepts_value n b s v = record {
  node = record n { promise = b; accepted = put_at n.accepted s (accepted_entry b v) };
  change = Some (Entry s (accepted_entry b v));
  posts = to_all n.me n.weights (Accepted b s v);
}

-- Accept(b, s, v) from p: the value is accepted unless the ballot is below the promise
abbrev pub on_accept : {V : Type 0} → Node V → ℕ → Ballot → ℕ → Option V → StepResult V
on_accept n p b s v = if is_below b n.promise then sends_nack n p b else accepts_value n b s v
