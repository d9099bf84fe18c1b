-- A Prepare and an Accept preserve the invariant: a promise reports the acceptor's votes
-- truthfully, and a vote respects the acceptor's promises.
use Rattle.net.proofs.Words.{◌≡◌, ℕ, suc, ◌+◌, ◌≤◌, Bool, true, false, List, [], ◌∷◌, length, Option, Some, inl, inr, refl, ap, sym, ◌∙◌, subst, arith, if◌then◌else◌, slice_get, AllByRecursion, entry_at, put_at, In, put_either, put_same, Ballot, SlotReport, Accepted, AcceptedEntry, is_below, pages_of, Node, reports_from, promise_posts_from, promises, sends_nack, on_prepare, accepted_entry, accepts_value, on_accept, Under, Upto, upto_self, upto_upto, upto_under, under_is_upto, not_both, under_true, under_false, reports-held, held-reported, Vote, vote}
use Rattle.net.proofs.Ledger.{begun_as, Promised, proposal, Ledger, HasHigher, IsBacked, OnePromise, IsSound}
use Rattle.net.proofs.LedgerGrows.{AllPromisedUpto, Grows, with_promise, with_vote, grows-with_promise, grows-with_vote}
use Rattle.net.proofs.LedgerSteps.{promised_sound, voted_sound}
use Rattle.net.proofs.Invariant.{IsHeldFrom, NodeHolds, IsTrue, proposer_lasts, learner_lasts}
use Rattle.net.proofs.StepsContinue.{Continues, same_ledger, true_to_all}

-- the packets that carry the pages of a promise are true
true_pages : {V : Type 0} (ws : List ℕ) (l : Ledger V) (p : Promised V) (to : ℕ) → In p l.promises → (i : ℕ) (pages : List (List (SlotReport V)))
    → ((d : ℕ) (page : List (SlotReport V)) → slice_get pages d ≡ Some page → slice_get (pages_of p.reports) (i + d) ≡ Some page)
    → AllByRecursion (IsTrue ws l) (promise_posts_from p.node to p.ballot (length (pages_of p.reports)) (suc i) pages)
true_pages ws l p to is_in i [] each = tt
true_pages {V} ws l p to is_in i (page ∷ pages) each = (
  record {
    promise = p;
    is_in = is_in;
    node = refl;
    ballot = refl;
    counted = refl;
    index = i;
    is_number = refl;
    place = let e : i + 0 ≡ i = omega arith in subst (λ (t : ℕ). slice_get (pages_of p.reports) t ≡ Some page) e (each 0 page refl);
  },
  true_pages ws l p to is_in (suc i) pages (λ d x h. let e : i + suc d ≡ suc i + d = omega arith in subst (λ (t : ℕ). slice_get (pages_of p.reports) t ≡ Some x) e (each (suc d) x h)),
)

module _ {V : Type 0} {offers : List V} {l : Ledger V} (n : Node V) (sound : IsSound n.weights offers l) (holds : NodeHolds n.weights offers l n.me n) where
  -- A Prepare above the promise.

  module _ (b : Ballot) (first : ℕ) (under : Under n.promise b) where
    abbrev made : Promised V
    made = record { node = n.me; ballot = b; first = first; reports = reports_from first 0 n.accepted }

    -- the node has not promised this ballot yet, since it is above all that the node promised
    not_twice : (q : Promised V) → In q l.promises → OnePromise made q → ⊥
    not_twice q i same = not_both b b (subst (λ (c : Ballot). Under c b) (sym same.1) (upto_under q.ballot n.promise b (holds.acceptor.promised q i (sym same.0)) under)) (upto_self b)

    -- for each vote of the node from slot `first` on and below the ballot, the promise reports the
    -- slot under the vote's ballot or a higher one
    reports_all : (x : Vote V) → In x l.votes → x.node ≡ n.me → first ≤ x.slot → Under x.ballot b → HasHigher made.reports x
    reports_all x i mine from low =
        let kept = holds.acceptor.held_from x i mine in
        let r = held-reported first 0 n.accepted x.slot kept.entry x.slot kept.is_held (omega arith) from in
        record { report = r.report; is_in = r.is_in; slot = r.slot; upto = subst (λ (c : Ballot). Upto x.ballot c) (sym r.ballot) kept.upto }

    -- each report of the promise is of a vote of the node below the ballot
    backs_all : (r : SlotReport V) → In r made.reports → IsBacked l made r
    backs_all r i =
        let from = reports-held first 0 n.accepted r i in
        let voted = holds.acceptor.held from.index from.entry from.is_held in
        let slot : r.slot ≡ from.index = omega (arith, from.slot) in
        let low = upto_under from.entry.ballot n.promise b (holds.acceptor.voted _ voted refl) under in
        record {
          first = from.from_first;
          under = subst (λ (c : Ballot). Under c b) (sym from.ballot) low;
          voted = subst (λ (c : Ballot). In (vote n.me c r.slot r.value) l.votes) (sym from.ballot)
              (subst (λ (s : ℕ). In (vote n.me from.entry.ballot s r.value) l.votes) (sym slot)
              (subst (λ (v : Option V). In (vote n.me from.entry.ballot from.index v) l.votes) (sym from.value) voted));
        }

    -- with the new promise, all ballots that the node promised are at most its ballot
    promised_upto : (p : Promised V) → In p (made ∷ l.promises) → p.node ≡ n.me → Upto p.ballot b
    promised_upto p (inl e) mine = subst (λ (p : Promised V). Upto p.ballot b) e (upto_self b)
    promised_upto p (inr i) mine = upto_upto p.ballot n.promise b (holds.acceptor.promised p i mine) (under_is_upto _ _ under)

    -- a promise of a ballot above the current promise preserves the invariant
    pub promises_continue : (to : ℕ) → In (begun_as b first) l.begun → Continues n.weights offers n.me l (promises n to b first)
    promises_continue to begun =
        let m : Ledger V = with_promise made l in
        let g : Grows n.me l m = grows-with_promise made l n.me refl in
        record {
          ledger = m;
          grows = g;
          sound = promised_sound sound made not_twice record { begun = begun; reported = reports_all; backed = backs_all };
          node = record {
            me = holds.me;
            weights = holds.weights;
            learner = holds.learner;
            acceptor = record {
              promised = promised_upto;
              voted = λ x i e. upto_upto x.ballot n.promise b (holds.acceptor.voted x i e) (under_is_upto _ _ under);
              held_from = holds.acceptor.held_from;
              held = holds.acceptor.held;
            };
            proposer = proposer_lasts g n.weights offers n.me n.round n.role n.pages n.heard n.waiting (λ x i e. i) (λ p i e. i) holds.proposer;
          };
          posts = true_pages n.weights m made to (inl refl) 0 (pages_of made.reports)
              (λ d page e. let z : 0 + d ≡ d = omega arith in subst (λ (t : ℕ). slice_get (pages_of made.reports) t ≡ Some page) (sym z) e);
          cast = refl;
        }

  -- a Prepare is answered by a promise or a refusal, depending on the test, and both preserve the
  -- invariant
  prepare_either : (to : ℕ) (b : Ballot) (first : ℕ) → In (begun_as b first) l.begun → (t : Bool) → is_below n.promise b ≡ t
      → Continues n.weights offers n.me l (if t then promises n to b first else sends_nack n to b)
  prepare_either to b first begun true test = promises_continue b first (under_true _ _ test) to begun
  prepare_either to b first begun false test = same_ledger sound holds (tt, tt) refl

  -- a Prepare of a ballot that was begun preserves the invariant
  pub prepare_continues : (to : ℕ) (b : Ballot) (first : ℕ) → In (begun_as b first) l.begun → Continues n.weights offers n.me l (on_prepare n to b first)
  prepare_continues to b first begun = prepare_either to b first begun (is_below n.promise b) refl

  -- An Accept whose ballot is not below the promise.

  module _ (b : Ballot) (s : ℕ) (v : Option V) (upto : Upto n.promise b) where
    -- with the new vote, all ballots under which the node voted are at most its ballot
    voted_upto : (x : Vote V) → In x (vote n.me b s v ∷ l.votes) → x.node ≡ n.me → Upto x.ballot b
    voted_upto x (inl e) mine = subst (λ (x : Vote V). Upto x.ballot b) e (upto_self b)
    voted_upto x (inr i) mine = upto_upto x.ballot n.promise b (holds.acceptor.voted x i mine) upto

    -- once the new entry is put, each vote of the node has an entry at its slot with the vote's
    -- ballot or a higher one
    held_from_put : (x : Vote V) → In x (vote n.me b s v ∷ l.votes) → x.node ≡ n.me → IsHeldFrom (put_at n.accepted s (accepted_entry b v)) x
    held_from_put x (inl e) mine = subst (λ (x : Vote V). IsHeldFrom (put_at n.accepted s (accepted_entry b v)) x) e record { entry = accepted_entry b v; is_held = put_same n.accepted s (accepted_entry b v); upto = upto_self b }
    held_from_put x (inr i) mine = let old = holds.acceptor.held_from x i mine in elim (put_either n.accepted s x.slot (accepted_entry b v)) [
      | inl put ↦ record { entry = accepted_entry b v; is_held = put.1; upto = voted_upto x (inr i) mine }
      | inr same ↦ record { entry = old.entry; is_held = same ∙ old.is_held; upto = old.upto }
    ]

    -- once the new entry is put, each accepted entry was voted for
    put_voted : (t : ℕ) (h : AcceptedEntry V) → entry_at (put_at n.accepted s (accepted_entry b v)) t ≡ Some h → In (vote n.me h.ballot t h.value) (vote n.me b s v ∷ l.votes)
    put_voted t h e = elim (put_either n.accepted s t (accepted_entry b v)) [
      | inl put ↦ let same : accepted_entry b v ≡ h = cc (put.1, e) in
          inl (subst (λ (h : AcceptedEntry V). vote n.me b s v ≡ vote n.me h.ballot t h.value) same (ap (λ (s : ℕ). vote n.me b s v) (sym put.0)))
      | inr same ↦ inr (holds.acceptor.held t h (sym same ∙ e))
    ]

    -- a vote for a proposal whose ballot is not below the promise preserves the invariant
    pub accepts_continue : In (proposal b s v) l.proposals → Continues n.weights offers n.me l (accepts_value n b s v)
    accepts_continue proposed =
        let m : Ledger V = with_vote (vote n.me b s v) l in
        let kept : AllPromisedUpto l.promises n.me b = λ p i e. upto_upto p.ballot n.promise b (holds.acceptor.promised p i e) upto in
        let g : Grows n.me l m = grows-with_vote (vote n.me b s v) l kept in
        record {
          ledger = m;
          grows = g;
          sound = voted_sound sound (vote n.me b s v) kept proposed;
          node = record {
            me = holds.me;
            weights = holds.weights;
            acceptor = record { promised = kept; voted = voted_upto; held_from = held_from_put; held = put_voted };
            proposer = proposer_lasts g n.weights offers n.me n.round n.role n.pages n.heard n.waiting (λ x i e. i) (λ p i e. i) holds.proposer;
            learner = learner_lasts g n.weights n.tallies n.learned holds.learner;
          };
          posts = true_to_all n.weights m n.me (Accepted b s v) (inl refl) 0 n.weights;
          cast = refl;
        }

  -- an Accept is refused or accepted, depending on the test, and both preserve the invariant
  accept_either : (to : ℕ) (b : Ballot) (s : ℕ) (v : Option V) → In (proposal b s v) l.proposals → (t : Bool) → is_below b n.promise ≡ t
      → Continues n.weights offers n.me l (if t then sends_nack n to b else accepts_value n b s v)
  accept_either to b s v proposed true test = same_ledger sound holds (tt, tt) refl
  accept_either to b s v proposed false test = accepts_continue b s v (under_false _ _ test) proposed

  -- an Accept of a proposal in the ledger preserves the invariant
  pub accept_continues : (to : ℕ) (b : Ballot) (s : ℕ) (v : Option V) → In (proposal b s v) l.proposals → Continues n.weights offers n.me l (on_accept n to b s v)
  accept_continues to b s v proposed = accept_either to b s v proposed (is_below b n.promise) refl
