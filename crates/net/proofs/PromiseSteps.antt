-- A page of a Promise preserves the invariant: it is a true page and is kept as such, its sender is
-- heard once all its pages are there, and with a quorum heard the proposer leads, with proposals
-- each of which is grounded.
use Rattle.net.proofs.Words.{◌≡◌, ◌≢◌, ℕ, zero, suc, ◌+◌, ◌-◌, ◌≤◌, Bool, true, false, not, ◌&&◌, List, [], ◌∷◌, ◌++◌, map, take, drop, length, Option, Some, inl, inr, refl, ap, sym, ◌∙◌, subst, arith, if◌then◌else◌, slice_get, length-map, nat_tests, AllByRecursion, and_parts, not-true, SLOTS, entry_at, front_of, In, Ballot, SlotReport, Heard, Role, Idle, Preparing, Leading, is_same, is_quorum, pages_of, joined_pages, are_received, accept_posts, Node, StepResult, unchanged, pages_from, page_of, with_page, is_heard, top_or_first, proposed_values, all_reports, leads, adds_page, completes_promise, on_complete_promise, on_promise_page, on_promise_as, on_promise, same_true, page_either, other_pages, pages-all, joined-all, are_received-front, first_to_top, length-proposed_values, all_append}
use Rattle.net.proofs.Ledger.{Promised, Ledger, IsFree, IsBegun, IsBrought, IsSound}
use Rattle.net.proofs.LedgerGrows.{Grows, grows_both, begun_lasts, free_lasts}
use Rattle.net.proofs.LedgerSteps.{with_proposals, AllProposedBelow, each_free, each_proposed_more, batch}
use Rattle.net.proofs.Invariant.{IsPage, IsHeard, IsPreparing, RoleHolds, NodeHolds, IsPagePacket, IsTrue}
use Rattle.net.proofs.StepsContinue.{Continues, same_ledger, true_accepts}
use Rattle.net.proofs.QuorumHeard.{AllHeard, IsQuorumHeard, fills_grounded, fills_brought, free_above, reported_from}
use Rattle.net.proofs.ProposerSteps.{after_batch}

-- if P holds of each element, it holds of each of the first i
all_take : {A : Type 0} (P : A → Type 0) (i : ℕ) (xs : List A) → AllByRecursion P xs → AllByRecursion P (take i xs)
all_take P zero xs h = tt
all_take P (suc i) [] h = tt
all_take P (suc i) (x ∷ xs) h = (h.0, all_take P i xs h.1)

-- if P holds of each element, it holds of each after the first i
all_drop : {A : Type 0} (P : A → Type 0) (i : ℕ) (xs : List A) → AllByRecursion P xs → AllByRecursion P (drop i xs)
all_drop P zero xs h = h
all_drop P (suc i) [] h = tt
all_drop P (suc i) (x ∷ xs) h = all_drop P i xs h.1

-- values that were offered are allowed as values to propose
all_offered : {V : Type 0} (offers vs : List V) → AllByRecursion (λ v. In v offers) vs → AllByRecursion (IsBrought offers) (map (λ v. Some v) vs)
all_offered offers [] h = tt
all_offered offers (v ∷ vs) h = (h.0, all_offered offers vs h.1)

module _ {V : Type 0} {offers : List V} {l : Ledger V} (n : Node V) (sound : IsSound n.weights offers l) (holds : NodeHolds n.weights offers l n.me n) where
  abbrev Goes : StepResult V → Type 0
  Goes step = Continues n.weights offers n.me l step

  -- A quorum is heard: first the reported slots are filled, and then the waiting values take slots.

  -- if a node has heard a quorum, leading preserves the invariant
  leads_continues : (b : Ballot) (first : ℕ) (pages : List (List (Option (List (SlotReport V))))) (heard : List Heard) → IsPreparing l n.me b first pages heard → is_quorum n.weights (is_heard heard) ≡ true
      → Goes (leads n b first (all_reports pages heard) (top_or_first first (all_reports pages heard)))
  leads_continues b first pages heard preparing quorum =
      let h : IsQuorumHeard n.weights offers l b first pages heard = record { sound = sound; begun = preparing.begun; each = preparing.each_heard; quorum = quorum } in
      let reports : List (SlotReport V) = all_reports pages heard in
      let top : ℕ = top_or_first first reports in
      let first_top : first ≤ top = first_to_top first reports (reported_from n.weights offers l b first pages heard h) in
      let filled : List (Option V) = proposed_values reports first (top - first) in
      let proposed : List V = take (SLOTS - top) n.waiting in
      let values : List (Option V) = map (λ v. Some v) proposed in
      let begun : IsBegun l b = record { first = first; is_in = preparing.begun } in
      let one = batch n.weights offers b filled first l sound begun (λ p i e. absurd (preparing.fresh p i e)) (fills_grounded n.weights offers l b first pages heard h first (top - first) (omega arith))
      (fills_brought n.weights offers l b first pages heard h first (top - first)) in
      let l1 : Ledger V = with_proposals b first filled l in
      let filled_to : first + length filled ≡ top = rw (length-proposed_values reports first (top - first)) (let z : first + (top - first) ≡ top = omega arith in z) in
      let free1 : (s : ℕ) → top ≤ s → IsFree n.weights l1 b s = λ s le. free_lasts one.grows (free_above n.weights offers l b first pages heard h s (let z : first ≤ s = omega arith in z) le) in
      let two = batch n.weights offers b values top l1 one.sound (begun_lasts one.grows b begun) (subst (λ (s : ℕ). AllProposedBelow l1 b s) filled_to one.below) (each_free n.weights l1 b top values free1)
      (all_offered offers proposed (all_take (λ v. In v offers) (SLOTS - top) n.waiting holds.proposer.offered)) in
      let l2 : Ledger V = with_proposals b top values l1 in
      let taken_to : top + length values ≡ top + length proposed = ap (λ s. top + s) (length-map proposed (λ (v : V). let x : Option V = Some v in x)) in
      let own : Grows b.node l l2 = grows_both one.grows two.grows in
      let g : Grows n.me l l2 = subst (λ (k : ℕ). Grows k l l2) preparing.mine own in
      record {
        ledger = l2;
        grows = g;
        sound = two.sound;
        node = after_batch n sound holds b (top + length proposed) l2 [] [] (drop (SLOTS - top) n.waiting) (two.begun ∙ one.begun) (two.promises ∙ one.promises) (two.votes ∙ one.votes)
            record {
              mine = preparing.mine;
              begun = begun_lasts own b begun;
              below = subst (λ (s : ℕ). AllProposedBelow l2 b s) taken_to two.below;
              free = λ s le. free_lasts two.grows (free1 s (omega arith));
            }
            (all_drop (λ v. In v offers) (SLOTS - top) n.waiting holds.proposer.offered);
        posts = all_append (IsTrue n.weights l2) (accept_posts n.me n.weights b first filled) (accept_posts n.me n.weights b top values)
            (true_accepts n.weights l2 n.me n.weights b first filled (each_proposed_more b l1.proposals l2.proposals first filled two.grows.proposals.old one.proposed))
            (true_accepts n.weights l2 n.me n.weights b top values two.proposed);
        cast = two.votes ∙ one.votes;
      }

  -- A node that continues to prepare.

  -- the invariant holds of a preparing node with these pages and nodes heard
  prepares_on : (b : Ballot) (first : ℕ) (pages : List (List (Option (List (SlotReport V))))) (heard : List Heard) → n.role ≡ Preparing b first → IsPreparing l n.me b first pages heard
      → NodeHolds n.weights offers l n.me (record n { pages = pages; heard = heard })
  prepares_on b first pages heard role preparing = record {
    me = holds.me;
    weights = holds.weights;
    acceptor = holds.acceptor;
    learner = holds.learner;
    proposer = record {
      begun = holds.proposer.begun;
      as_role = subst (λ (r : Role). RoleHolds n.weights l n.me r pages heard) (sym role) preparing;
      offered = holds.proposer.offered;
    };
  }

  -- with these nodes heard the node leads or continues to prepare, depending on the test of a
  -- quorum; both preserve the invariant
  hears_either : (b : Ballot) (first : ℕ) (pages : List (List (Option (List (SlotReport V))))) (heard : List Heard) → n.role ≡ Preparing b first → IsPreparing l n.me b first pages heard
      → (t : Bool) → is_quorum n.weights (is_heard heard) ≡ t
      → Goes (if t then leads n b first (all_reports pages heard) (top_or_first first (all_reports pages heard)) else completes_promise n pages heard)
  hears_either b first pages heard role preparing true quorum = leads_continues b first pages heard preparing quorum
  hears_either b first pages heard role preparing false quorum = same_ledger sound (prepares_on b first pages heard role preparing) tt refl

  -- A page comes from a node p that is not heard.

  module _ (p : ℕ) (b : Ballot) (number count : ℕ) (reports : List (SlotReport V)) (packet : IsPagePacket l p b number count reports) (first : ℕ) (role : n.role ≡ Preparing b first)
      (preparing : IsPreparing l n.me b first n.pages n.heard) (unheard : is_heard n.heard p ≡ false) where
    abbrev had : List (List (Option (List (SlotReport V))))
    had = with_page n.pages p (number - 1) reports

    -- each page received, including the new one, is a page of its node's promise
    true_page : (j i : ℕ) (page : List (SlotReport V)) → page_of had j i ≡ Some page → IsPage l j b i page
    true_page j i page e = elim (page_either n.pages p (number - 1) reports j i page e) [
      | inl old ↦ preparing.each_page j i page old
      | inr new ↦ let index : packet.index ≡ i = omega (arith, packet.is_number, new.1) in
          record {
            promise = packet.promise;
            is_in = packet.is_in;
            node = packet.node ∙ sym new.0;
            ballot = packet.ballot;
            place = subst (λ (page : List (SlotReport V)). slice_get (pages_of packet.promise.reports) i ≡ Some page) new.2
                (subst (λ (i : ℕ). slice_get (pages_of packet.promise.reports) i ≡ Some reports) index packet.place);
          }
    ]

    -- the pages of the nodes heard before stay the same
    still_heard : (hs : List Heard) → is_heard hs p ≡ false → AllHeard l b n.pages hs → AllHeard l b had hs
    still_heard [] none h = tt
    still_heard (x ∷ hs) none h =
        let other : x.node ≢ p = grind (arith, nat_tests) in (
          subst (λ (m : List (Option (List (SlotReport V)))). IsHeard l b x.node (joined_pages m x.count)) (sym (other_pages n.pages p (number - 1) reports x.node other)) h.0,
          still_heard hs (grind (arith, nat_tests)) h.1,
        )

    -- if all pages are there, their join is all that the node reports
    whole_heard : are_received (pages_from had p) count ≡ true → IsHeard l b p (joined_pages (pages_from had p) count)
    whole_heard all =
        let promise : Promised V = packet.promise in
        let one : (i : ℕ) (page : List (SlotReport V)) → entry_at (pages_from had p) i ≡ Some page → slice_get (pages_of promise.reports) i ≡ Some page = λ i page e.
        let q = true_page p i page e in
        let same = sound.promised_once q.promise promise q.is_in packet.is_in (q.node ∙ sym packet.node, q.ballot ∙ sym packet.ballot) in
        subst (λ (rs : List (SlotReport V)). slice_get (pages_of rs) i ≡ Some page) same q.place in
        let enough : length (pages_of promise.reports) ≤ front_of (pages_from had p) = subst (λ (c : ℕ). c ≤ front_of (pages_from had p)) packet.counted (are_received-front (pages_from had p) count all) in
        let joined = joined-all (pages_of promise.reports) (pages_from had p) one enough ∙ pages-all promise.reports in
        record {
          promise = promise;
          is_in = packet.is_in;
          node = packet.node;
          ballot = packet.ballot;
          all = sym (subst (λ (c : ℕ). joined_pages (pages_from had p) c ≡ promise.reports) (sym packet.counted) joined);
        }

    -- the sender is heard if all its pages are there, else the page is kept; both preserve the
    -- invariant
    gathers_either : (t : Bool) → are_received (pages_from had p) count ≡ t → Goes (if t then on_complete_promise n b first had (n.heard ++ record { node = p; count = count } ∷ []) else adds_page n had)
    gathers_either true all = hears_either b first had (n.heard ++ record { node = p; count = count } ∷ []) role
        record {
          mine = preparing.mine;
          begun = preparing.begun;
          fresh = preparing.fresh;
          each_page = true_page;
          each_heard = all_append (λ h. IsHeard l b h.node (joined_pages (pages_from had h.node) h.count)) n.heard (record { node = p; count = count } ∷ [])
              (still_heard n.heard unheard preparing.each_heard) (whole_heard all, tt);
        }
        (is_quorum n.weights (is_heard (n.heard ++ record { node = p; count = count } ∷ []))) refl
    gathers_either false all = same_ledger sound
        (prepares_on b first had n.heard role record {
          mine = preparing.mine;
          begun = preparing.begun;
          fresh = preparing.fresh;
          each_page = true_page;
          each_heard = still_heard n.heard unheard preparing.each_heard;
        })
        tt refl

  -- a page is gathered if it is for the ballot and its sender is not heard, else nothing happens;
  -- both preserve the invariant
  comes_either : (p : ℕ) (b : Ballot) (number count : ℕ) (reports : List (SlotReport V)) → IsPagePacket l p b number count reports → (c : Ballot) (first : ℕ) → n.role ≡ Preparing c first
      → IsPreparing l n.me c first n.pages n.heard → (t : Bool) → (is_same b c && not (is_heard n.heard p)) ≡ t
      → Goes (if t then on_promise_page n p c first count (with_page n.pages p (number - 1) reports) else unchanged n)
  comes_either p b number count reports packet c first role preparing false test = same_ledger sound holds tt refl
  comes_either p b number count reports packet c first role preparing true test =
      let tests = and_parts (is_same b c) (not (is_heard n.heard p)) test in
      let here : IsPagePacket l p c number count reports = subst (λ (d : Ballot). IsPagePacket l p d number count reports) (same_true b c tests.0) packet in
      gathers_either p c number count reports here first role preparing (not-true (is_heard n.heard p) tests.1) (are_received (pages_from (with_page n.pages p (number - 1) reports) p) count) refl

  -- a page of a promise preserves the invariant in each role
  promise_as : (p : ℕ) (b : Ballot) (number count : ℕ) (reports : List (SlotReport V)) → IsPagePacket l p b number count reports → (role : Role) → n.role ≡ role
      → RoleHolds n.weights l n.me role n.pages n.heard → Goes (on_promise_as role n p b number count reports)
  promise_as p b number count reports packet Idle role h = same_ledger sound holds tt refl
  promise_as p b number count reports packet (Leading c next) role h = same_ledger sound holds tt refl
  promise_as p b number count reports packet (Preparing c first) role h = comes_either p b number count reports packet c first role h (is_same b c && not (is_heard n.heard p)) refl

  -- a Promise that carries a true page preserves the invariant
  pub promise_continues : (p : ℕ) (b : Ballot) (number count : ℕ) (reports : List (SlotReport V)) → IsPagePacket l p b number count reports → Goes (on_promise n p b number count reports)
  promise_continues p b number count reports packet = promise_as p b number count reports packet n.role refl holds.proposer.as_role
