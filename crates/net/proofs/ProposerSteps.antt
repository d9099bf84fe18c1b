-- A begin, an offer and a Nack preserve the invariant: a proposer begins each of its ballots once,
-- and proposes only grounded values.
use Rattle.net.proofs.Words.{◌≡◌, ℕ, zero, suc, ◌+◌, ◌≤◌, ◌^◌, Bool, true, false, ◌&&◌, ◌==◌, nat_lt, List, [], ◌∷◌, length, Option, Some, Result, Ok, Err, inl, inr, refl, ap, sym, subst, arith, if◌then◌else◌, AllByRecursion, SLOTS, In, Ballot, SlotReport, Prepare, Accept, Heard, Role, Idle, Preparing, Leading, MAX_VALUE_BYTES, MAX_WAITING, Refusal, Busy, LogFull, RoundsSpent, TooLong, is_below, Node, StepResult, unchanged, page_of, no_pages, log_length, waits, proposes_value, offer_as, offer_result, next_round, next_ballot, begins, begin_result, is_at, idles, on_nack, all_append}
use Rattle.net.proofs.Ledger.{Begun, begun_as, Ledger, IsSound}
use Rattle.net.proofs.LedgerGrows.{Grows, with_begun, grows-with_begun, begun_lasts, free_lasts}
use Rattle.net.proofs.LedgerSteps.{begun_sound, with_proposals, each_free, batch}
use Rattle.net.proofs.Invariant.{IsLeading, RoleHolds, NodeHolds, AcceptorHolds, LearnerHolds}
use Rattle.net.proofs.StepsContinue.{Continues, same_ledger, true_to_all}

-- P holds of the step, if the answer is one
abbrev pub IfStep : {V : Type 0} → Result (StepResult V) Refusal → (StepResult V → Type 0) → Type 0
IfStep (Ok step) P = P step
IfStep (Err refusal) P = Unit {0}

module _ {V : Type 0} {offers : List V} {l : Ledger V} (n : Node V) (sound : IsSound n.weights offers l) (holds : NodeHolds n.weights offers l n.me n) where
  abbrev Goes : StepResult V → Type 0
  Goes step = Continues n.weights offers n.me l step

  -- the invariant holds of the node with another role, if it holds of that role
  as_role : (role : Role) → RoleHolds n.weights l n.me role n.pages n.heard → NodeHolds n.weights offers l n.me (record n { role = role })
  as_role role h = record {
    me = holds.me;
    weights = holds.weights;
    acceptor = holds.acceptor;
    learner = holds.learner;
    proposer = record { begun = holds.proposer.begun; as_role = h; offered = holds.proposer.offered };
  }

  -- A begin: the round is above all rounds that the node began, so the ballot is a new one.

  -- the next ballot was not begun before
  not_begun : (x : Begun) → In x l.begun → next_ballot n ≡ x.ballot → ⊥
  not_begun x i same =
      let round : next_round n ≡ x.ballot.round = ap (λ (b : Ballot). b.round) same in
      let low = holds.proposer.begun x i (sym (ap (λ (b : Ballot). b.node) same)) in
      omega (arith, round, low)

  -- with the next ballot begun, each round that the node began is at most its new round
  begun_upto : (x : Begun) → In x (begun_as (next_ballot n) (log_length n) ∷ l.begun) → x.ballot.node ≡ n.me → x.ballot.round ≤ next_round n
  begun_upto x (inl e) mine = let round : next_round n ≡ x.ballot.round = ap (λ (y : Begun). y.ballot.round) e in omega (arith, round)
  begun_upto x (inr i) mine = let low = holds.proposer.begun x i mine in omega (arith, low)

  -- without pages no page is found
  none_had : (weights : List ℕ) (j i : ℕ) (page : List (SlotReport V)) → page_of (no_pages weights) j i ≡ Some page → ⊥
  none_had [] j i page e = cc
  none_had (w ∷ weights) zero i page e = cc
  none_had (w ∷ weights) (suc j) i page e = none_had weights j i page e

  -- the step that begins the next ballot preserves the invariant
  begins_continue : Goes (begins n)
  begins_continue =
      let x : Begun = begun_as (next_ballot n) (log_length n) in
      let m : Ledger V = with_begun x l in
      let g : Grows n.me l m = grows-with_begun x l n.me refl in
      record {
        ledger = m;
        grows = g;
        sound = begun_sound sound x not_begun;
        node = record {
          me = holds.me;
          weights = holds.weights;
          acceptor = holds.acceptor;
          learner = holds.learner;
          proposer = record {
            begun = begun_upto;
            as_role = record {
              mine = refl;
              begun = inl refl;
              fresh = λ p i e. let b = sound.proposed_begun p i in not_begun (begun_as p.ballot b.first) b.is_in (sym e);
              each_page = λ j i page e. absurd (none_had n.weights j i page e);
              each_heard = tt;
            };
            offered = holds.proposer.offered;
          };
        };
        posts = true_to_all n.weights m n.me (Prepare (next_ballot n) (log_length n)) (inl refl) 0 n.weights;
        cast = refl;
      }

  -- a begin preserves the invariant, unless the test refuses it
  begin_either : (t : Bool) (refusal : Refusal) → IfStep (if t then Ok (begins n) else Err refusal) Goes
  begin_either true refusal = begins_continue
  begin_either false refusal = tt

  -- a begin preserves the invariant, unless it is refused
  pub begin_continues : IfStep (begin_result n) Goes
  begin_continues = begin_either (nat_lt (next_round n) (2 ^ 64)) RoundsSpent

  -- An offer: a leader may propose any value from its next slot on.

  -- the invariant holds of the node as a leader, if the ledger differs only in its proposals
  pub after_batch : (b : Ballot) (next : ℕ) (m : Ledger V) (pages : List (List (Option (List (SlotReport V))))) (heard : List Heard) (waiting : List V) → m.begun ≡ l.begun → m.promises ≡ l.promises → m.votes ≡ l.votes
      → IsLeading n.weights m n.me b next → AllByRecursion (λ v. In v offers) waiting
      → NodeHolds n.weights offers m n.me (record n { role = Leading b next; pages = pages; heard = heard; waiting = waiting })
  after_batch b next m pages heard waiting begun promises votes leading offered = record {
    me = holds.me;
    weights = holds.weights;
    acceptor = subst (λ ps. AcceptorHolds ps m.votes n.me n.promise n.accepted) (sym promises) (subst (λ vs. AcceptorHolds l.promises vs n.me n.promise n.accepted) (sym votes) holds.acceptor);
    proposer = record {
      begun = subst (λ (xs : List Begun). (x : Begun) → In x xs → x.ballot.node ≡ n.me → x.ballot.round ≤ n.round) (sym begun) holds.proposer.begun;
      as_role = leading;
      offered = offered;
    };
    learner = subst (λ vs. LearnerHolds n.weights vs n.tallies n.learned) (sym votes) holds.learner;
  }

  -- a leader that proposes an offered value at its next slot preserves the invariant
  takes_slot_continues : (v : V) (b : Ballot) (next : ℕ) → In v offers → IsLeading n.weights l n.me b next → Goes (proposes_value n b next v)
  takes_slot_continues v b next brought leading =
      let vs : List (Option V) = Some v ∷ [] in
      let m : Ledger V = with_proposals b next vs l in
      let made = batch n.weights offers b vs next l sound leading.begun leading.below (each_free n.weights l b next vs leading.free) (brought, tt) in
      let g : Grows n.me l m = subst (λ (k : ℕ). Grows k l m) leading.mine made.grows in
      record {
        ledger = m;
        grows = g;
        sound = made.sound;
        node = after_batch b (next + 1) m n.pages n.heard n.waiting refl refl refl
            record { mine = leading.mine; begun = begun_lasts g b leading.begun; below = made.below; free = λ s le. free_lasts g (leading.free s (let z : next ≤ s = omega arith in z)) }
            holds.proposer.offered;
        posts = true_to_all n.weights m n.me (Accept b next (Some v)) made.proposed.0 0 n.weights;
        cast = refl;
      }

  -- keeping an offered value waiting preserves the invariant
  waits_continues : (v : V) → In v offers → Goes (waits n v)
  waits_continues v brought = same_ledger sound record {
    me = holds.me;
    weights = holds.weights;
    acceptor = holds.acceptor;
    learner = holds.learner;
    proposer = record {
      begun = holds.proposer.begun;
      as_role = holds.proposer.as_role;
      offered = all_append (λ v. In v offers) n.waiting (v ∷ []) holds.proposer.offered (brought, tt);
    };
  } tt refl

  -- an offer to a node that does not lead waits, which preserves the invariant, or is refused by
  -- one of two tests
  waits_either : (v : V) → In v offers → (t u : Bool) → IfStep (if t then Err LogFull else if u then Ok (waits n v) else Err Busy) Goes
  waits_either v brought true u = tt
  waits_either v brought false true = waits_continues v brought
  waits_either v brought false false = tt

  -- an offer to a leader takes the next slot, which preserves the invariant, or is refused if none
  -- is left
  slot_either : (v : V) (b : Ballot) (next : ℕ) → In v offers → IsLeading n.weights l n.me b next → (t : Bool) → IfStep (if t then Err LogFull else Ok (proposes_value n b next v)) Goes
  slot_either v b next brought leading true = tt
  slot_either v b next brought leading false = takes_slot_continues v b next brought leading

  -- an offer to a node in any role preserves the invariant, unless it is refused
  offer_as_continues : (v : V) → In v offers → (role : Role) → RoleHolds n.weights l n.me role n.pages n.heard → IfStep (offer_as role n v) Goes
  offer_as_continues v brought Idle h = waits_either v brought (log_length n == SLOTS) (nat_lt (length n.waiting) MAX_WAITING)
  offer_as_continues v brought (Preparing b first) h = waits_either v brought (log_length n == SLOTS) (nat_lt (length n.waiting) MAX_WAITING)
  offer_as_continues v brought (Leading b next) h = slot_either v b next brought h (next == SLOTS)

  -- if an answer preserves the invariant, unless it is a refusal, so it does with the length tested
  -- first
  long_either : (r : Result (StepResult V) Refusal) → IfStep r Goes → (t : Bool) → IfStep (if t then Err TooLong else r) Goes
  long_either r h true = tt
  long_either r h false = h

  -- an offer preserves the invariant, unless it is refused
  pub offer_continues : (size : V → ℕ) (v : V) → In v offers → IfStep (offer_result size n v) Goes
  offer_continues size v brought = long_either (offer_as n.role n v) (offer_as_continues v brought n.role holds.proposer.as_role) (nat_lt MAX_VALUE_BYTES (size v))

  -- A Nack.

  -- a proposer that gives up or stays, depending on the test, preserves the invariant
  nack_either : (t : Bool) → Goes (if t then idles n else unchanged n)
  nack_either true = same_ledger sound (as_role Idle tt) tt refl
  nack_either false = same_ledger sound holds tt refl

  -- a Nack preserves the invariant
  pub nack_continues : (b c : Ballot) → Goes (on_nack n b c)
  nack_continues b c = nack_either (is_at n.role b && is_below b c)
