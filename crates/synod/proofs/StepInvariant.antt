-- Each step preserves the invariant of a node, and posts only packets that every node may rely on.
use Rattle.synod.proofs.Words.{◌≡◌, ℕ, ◌+◌, ◌-◌, ◌<◌, ◌≤◌, not, ◌&&◌, is_some, List, [], ◌∷◌, ◌++◌, map, take, drop, length, Option, Some, None, refl, arith, length-take, length-map, AllByRecursion, SLOTS, entry_at, Ballot, SlotReport, Packet, Body, Prepare, Promise, Accept, Accepted, Nack, Ask, Told, Heard, Role, Idle, Preparing, Leading, is_quorum, is_below, is_same, accept_posts, IsReport, IsPage, IsBody, IsPacket, IsPost, pages_of, are_received, Node, unchanged, pages_from, page_of, with_page, is_heard, reports_from, promises, sends_nack, on_prepare, top_or_first, proposed_values, all_reports, leads, adds_page, completes_promise, on_complete_promise, on_promise_page, on_promise_as, on_promise, has_voter, counted, learns_chosen, on_accepted_at, on_accepted, PreservesInvariant, on_packet, on_body, IsRole, IsReceivedPage, IsNode}
use Rattle.synod.proofs.NodeInvariant.{either, all_append, posts_accepts, same, with_parts, refuses_keeps, keeps_accept, chooses_keeps, keeps_ask, keeps_told, keeps_nack}
use Rattle.synod.proofs.PageInvariant.{reports_low, reports_few, all_cut, pages_few, posts_pages, top_low, reports_heard, all_with_page, length-proposed_values}

module _ {V : Type 0} (n : Node V) (is : IsNode n) where
  -- a Prepare preserves the invariant, whether it is promised or refused
  pub keeps_prepare : (p : ℕ) (b : Ballot) (first : ℕ) → p < length n.weights → PreservesInvariant (length n.weights) (on_prepare n p b first)
  keeps_prepare p b first for = either (length n.weights) (promises n p b first) (sends_nack n p b) (is_below n.promise b) (λ e.
      let reports : List (SlotReport V) = reports_from first 0 n.accepted in
      let pages : List (List (SlotReport V)) = pages_of reports in
      let few = reports_few first 0 n.accepted in
      let low = is.accepted in
      let count = pages_few 256 reports in
      record {
        node = with_parts n is b n.round n.accepted n.role n.pages n.heard n.learned n.waiting is.accepted is.learned is.role is.pages;
        posts = posts_pages (length n.weights) n.me p b (length pages) 1 pages is.me for (omega arith) (omega arith) (omega (arith, few, low, count.0)) (all_cut IsReport 256 reports (reports_low first 0 n.accepted (omega (arith, low))));
      }) (λ e. refuses_keeps n is p b for)

  -- counting the sender of an Accepted preserves the invariant, whether or not the slot is learned
  keeps_accepted_at : (o : Option (Option V)) (p : ℕ) (b : Ballot) (s : ℕ) (v : Option V) → s < SLOTS → PreservesInvariant (length n.weights) (on_accepted_at o n p b s v)
  keeps_accepted_at (Some u) p b s v low = same n is
  keeps_accepted_at None p b s v low =
      let counting : Node V = record n { tallies = counted n.tallies s b p } in
      let as_node : IsNode counting = record { weights = is.weights; me = is.me; accepted = is.accepted; learned = is.learned; role = is.role; pages = is.pages } in
      either (length n.weights) (learns_chosen counting s v) (unchanged counting) (is_quorum n.weights (has_voter counting.tallies s b)) (λ e. chooses_keeps counting as_node s v low) (λ e. same counting as_node)

  -- an Accepted for a slot below the limit preserves the invariant
  pub keeps_accepted : (p : ℕ) (b : Ballot) (s : ℕ) (v : Option V) → s < SLOTS → PreservesInvariant (length n.weights) (on_accepted n p b s v)
  keeps_accepted p b s v low = keeps_accepted_at (entry_at n.learned s) p b s v low

  -- A page of a promise.

  module _ (b : Ballot) (first : ℕ) (low : first ≤ SLOTS) (role : n.role ≡ Preparing b first) (pages : List (List (Option (List (SlotReport V))))) (each : AllByRecursion (AllByRecursion IsReceivedPage) pages) where
    -- leading preserves the invariant, since nothing is proposed at a slot past the limit
    leads_keep : (heard : List Heard) → PreservesInvariant (length n.weights) (leads n b first (all_reports pages heard) (top_or_first first (all_reports pages heard)))
    leads_keep heard =
        let reports : List (SlotReport V) = all_reports pages heard in
        let top : ℕ = top_or_first first reports in
        let below : top ≤ SLOTS = top_low first reports low (reports_heard pages heard each) in
        let proposed : List V = take (SLOTS - top) n.waiting in
        let fit : length proposed ≤ SLOTS - top = omega (arith, length-take (SLOTS - top) n.waiting) in
        let filled = length-proposed_values reports first (top - first) in
        let as_many : length (map (λ (v : V). let x : Option V = Some v in x) proposed) ≡ length proposed = length-map proposed (λ (v : V). let x : Option V = Some v in x) in
        record {
          node = with_parts n is n.promise n.round n.accepted (Leading b (top + length proposed)) [] [] n.learned (drop (SLOTS - top) n.waiting) is.accepted is.learned (omega (arith, below, fit)) tt;
          posts = all_append (IsPost (length n.weights)) (accept_posts n.me n.weights b first (proposed_values reports first (top - first))) (accept_posts n.me n.weights b top (map (λ v. Some v) proposed))
              (posts_accepts n.me n.weights b first (proposed_values reports first (top - first)) is.me (omega (arith, below, low, filled)))
              (posts_accepts n.me n.weights b top (map (λ v. Some v) proposed) is.me (omega (arith, below, fit, as_many)));
        }

    -- a complete promise preserves the invariant, with or without a quorum
    complete_promise_preserves : (heard : List Heard) → PreservesInvariant (length n.weights) (on_complete_promise n b first pages heard)
    complete_promise_preserves heard = either (length n.weights) (leads n b first (all_reports pages heard) (top_or_first first (all_reports pages heard))) (completes_promise n pages heard) (is_quorum n.weights (is_heard heard))
        (λ e. leads_keep heard)
        (λ e. record { node = with_parts n is n.promise n.round n.accepted n.role pages heard n.learned n.waiting is.accepted is.learned is.role each; posts = tt })

    -- a page for the node's ballot preserves the invariant, whether or not pages of its promise are
    -- missing
    promise_page_preserves : (p count : ℕ) → PreservesInvariant (length n.weights) (on_promise_page n p b first count pages)
    promise_page_preserves p count = either (length n.weights) (on_complete_promise n b first pages (n.heard ++ record { node = p; count = count } ∷ [])) (adds_page n pages) (are_received (pages_from pages p) count)
        (λ e. complete_promise_preserves (n.heard ++ record { node = p; count = count } ∷ []))
        (λ e. record { node = with_parts n is n.promise n.round n.accepted n.role pages n.heard n.learned n.waiting is.accepted is.learned is.role each; posts = tt })

  -- a Promise preserves the invariant in each role
  promise_as : (as_role : Role) (p : ℕ) (b : Ballot) (page count : ℕ) (reports : List (SlotReport V)) → n.role ≡ as_role → IsRole as_role → AllByRecursion IsReport reports
      → PreservesInvariant (length n.weights) (on_promise_as as_role n p b page count reports)
  promise_as Idle p b page count reports role low each = same n is
  promise_as (Leading c next) p b page count reports role low each = same n is
  promise_as (Preparing c first) p b page count reports role low each =
      either (length n.weights) (on_promise_page n p c first count (with_page n.pages p (page - 1) reports)) (unchanged n) (is_same b c && not (is_heard n.heard p))
      (λ e. promise_page_preserves c first low role (with_page n.pages p (page - 1) reports) (all_with_page n.pages p (page - 1) reports (is_some (page_of n.pages p (page - 1))) is.pages each) p count)
      (λ e. same n is)

  -- a Promise with a page whose number is within its count preserves the invariant
  pub keeps_promise_page : (p : ℕ) (b : Ballot) (page count : ℕ) (reports : List (SlotReport V)) → IsPage page count reports → PreservesInvariant (length n.weights) (on_promise n p b page count reports)
  keeps_promise_page p b page count reports h = promise_as n.role p b page count reports refl is.role h.each

  -- the body of a packet from a node preserves the invariant, if it is within the limits
  body_keeps : (p : ℕ) (body : Body V) → p < length n.weights → IsBody body → PreservesInvariant (length n.weights) (on_body n p body)
  body_keeps p (Prepare b first) from h = keeps_prepare p b first from
  body_keeps p (Promise b page count reports) from h = keeps_promise_page p b page count reports h
  body_keeps p (Accept b s v) from h = keeps_accept n is p b s v from h
  body_keeps p (Accepted b s v) from h = keeps_accepted p b s v h
  body_keeps p (Nack b c) from h = keeps_nack n is b c
  body_keeps p (Ask s) from h = keeps_ask n is p s from h
  body_keeps p (Told s v) from h = keeps_told n is p s v from h

  -- each packet within the limits preserves the invariant
  pub keeps_packet : (p : Packet V) → IsPacket (length n.weights) p → PreservesInvariant (length n.weights) (on_packet n p)
  keeps_packet p h = body_keeps p.from p.body h.sender h.body
