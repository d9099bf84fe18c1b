-- The values that a proposer may propose with the promises of a quorum (phase 2 of section 2.2): at
-- a reported slot the value reported there with the highest ballot; at any other slot from `first`
-- on, any value. Each such proposal is grounded.
use Rattle.net.proofs.Words.{◌≡◌, ℕ, zero, suc, ◌≤◌, Bool, true, false, ◌||◌, ◌==◌, List, [], ◌∷◌, Option, Some, None, inl, inr, refl, sym, ◌∙◌, subst, arith, eqb-true, AllByRecursion, In, In-append_left, In-append_right, In-append, Ballot, SlotReport, Heard, is_quorum, joined_pages, pages_from, is_heard, highest_at, reported_value, top_or_first, proposed_values, all_reports, Under, upto_upto, IsHighest, HighestHolds, highest_holds, below_top, Vote}
use Rattle.net.proofs.Ledger.{begun_as, Promised, proposal, Ledger, HasPromised, NoneVoted, HighestVoted, IsGrounded, IsFree, HasHigher, IsBrought, IsSound}
use Rattle.net.proofs.LedgerSteps.{EachGrounded}
use Rattle.net.proofs.Invariant.{IsHeard}

-- for each node heard, its pages join to all that its promise of b reports
abbrev pub AllHeard : {V : Type 0} → Ledger V → Ballot → List (List (Option (List (SlotReport V)))) → List Heard → Type 0
AllHeard l b pages heard = AllByRecursion (λ h. IsHeard l b h.node (joined_pages (pages_from pages h.node) h.count)) heard

pub record IsQuorumHeard {V : Type 0} (ws : List ℕ) (offers : List V) (l : Ledger V) (b : Ballot) (first : ℕ) (pages : List (List (Option (List (SlotReport V))))) (heard : List Heard) : Type 0 where
  pub sound : IsSound ws offers l
  pub begun : In (begun_as b first) l.begun
  pub each : AllHeard l b pages heard
  pub quorum : is_quorum ws (is_heard heard) ≡ true

-- node k promised b, and the reports of its promise are among the reports
pub record HeardFrom {V : Type 0} (l : Ledger V) (b : Ballot) (reports : List (SlotReport V)) (k : ℕ) : Type 0 where
  pub promise : Promised V
  pub is_in : In promise l.promises
  pub node : promise.node ≡ k
  pub ballot : promise.ballot ≡ b
  pub each : (r : SlotReport V) → In r promise.reports → In r reports

-- the report is one of a promise of b
pub record IsReported {V : Type 0} (l : Ledger V) (b : Ballot) (r : SlotReport V) : Type 0 where
  pub promise : Promised V
  pub is_in : In promise l.promises
  pub ballot : promise.ballot ≡ b
  pub reported : In r promise.reports

module _ {V : Type 0} (l : Ledger V) (b : Ballot) (pages : List (List (Option (List (SlotReport V))))) where
  -- the first node heard promised the ballot, and its reports are among all reports
  first_heard : (h : Heard) (hs : List Heard) (k : ℕ) → IsHeard l b h.node (joined_pages (pages_from pages h.node) h.count) → h.node ≡ k → HeardFrom l b (all_reports pages (h ∷ hs)) k
  first_heard h hs k d same = record {
    promise = d.promise;
    is_in = d.is_in;
    node = d.node ∙ same;
    ballot = d.ballot;
    each = λ r i. In-append_left r _ (all_reports pages hs) (subst (λ (rs : List (SlotReport V)). In r rs) d.all i);
  }

  -- a node heard from in the later reports is heard from in all reports
  later_heard : (h : Heard) (hs : List Heard) (k : ℕ) → HeardFrom l b (all_reports pages hs) k → HeardFrom l b (all_reports pages (h ∷ hs)) k
  later_heard h hs k d = record {
    promise = d.promise;
    is_in = d.is_in;
    node = d.node;
    ballot = d.ballot;
    each = λ r i. In-append_right r (joined_pages (pages_from pages h.node) h.count) _ (d.each r i);
  }

  -- a node that is heard is the first or a later one, and its reports are among all reports
  heard_either : (h : Heard) (hs : List Heard) (k : ℕ) (t : Bool) → (h.node == k) ≡ t → IsHeard l b h.node (joined_pages (pages_from pages h.node) h.count)
      → (is_heard hs k ≡ true → HeardFrom l b (all_reports pages hs) k) → (t || is_heard hs k) ≡ true → HeardFrom l b (all_reports pages (h ∷ hs)) k
  heard_either h hs k true test d later i = first_heard h hs k d (eqb-true _ _ test)
  heard_either h hs k false test d later i = later_heard h hs k (later i)

  -- each node heard promised the ballot, and its reports are among all reports
  heard_from : (heard : List Heard) → AllHeard l b pages heard → (k : ℕ) → is_heard heard k ≡ true → HeardFrom l b (all_reports pages heard) k
  heard_from [] each k i = cc
  heard_from (h ∷ hs) each k i = heard_either h hs k (h.node == k) refl each.0 (heard_from hs each.1 k) i

  -- each report is one of a promise of the ballot
  reported_by : (heard : List Heard) → AllHeard l b pages heard → (r : SlotReport V) → In r (all_reports pages heard) → IsReported l b r
  reported_by [] each r i = elim i [ ]
  reported_by (h ∷ hs) each r i = elim (In-append r (joined_pages (pages_from pages h.node) h.count) (all_reports pages hs) i) [
    | inl j ↦ let d = each.0 in record { promise = d.promise; is_in = d.is_in; ballot = d.ballot; reported = subst (λ (rs : List (SlotReport V)). In r rs) (sym d.all) j }
    | inr j ↦ reported_by hs each.1 r j
  ]

module _ {V : Type 0} (ws : List ℕ) (offers : List V) (l : Ledger V) (b : Ballot) (first : ℕ) (pages : List (List (Option (List (SlotReport V))))) (heard : List Heard)
    (h : IsQuorumHeard ws offers l b first pages heard) where
  abbrev reports : List (SlotReport V)
  reports = all_reports pages heard

  -- a promise of the ballot reports from the slot on for which the ballot was begun
  same_first : (p : Promised V) → In p l.promises → p.ballot ≡ b → p.first ≡ first
  same_first p i same = h.sound.begun_once (begun_as p.ballot p.first) (begun_as b first) (h.sound.truthful p i).begun h.begun same

  -- for a vote of a heard node below the ballot, its slot is reported under the vote's ballot or a
  -- higher one
  vote_reported : (x : Vote V) → In x l.votes → is_heard heard x.node ≡ true → first ≤ x.slot → Under x.ballot b → HasHigher reports x
  vote_reported x i heard_node from under =
      let d = heard_from l b pages heard h.each x.node heard_node in
      let start = same_first d.promise d.is_in d.ballot in
      let r = (h.sound.truthful d.promise d.is_in).reported x i (sym d.node) (omega (arith, start, from)) (subst (λ (c : Ballot). Under x.ballot c) (sym d.ballot) under) in
      record { report = r.report; is_in = d.each r.report r.is_in; slot = r.slot; upto = r.upto }

  -- each node heard promised the ballot
  all_promised : (k : ℕ) → is_heard heard k ≡ true → HasPromised l k b
  all_promised k i = let d = heard_from l b pages heard h.each k i in record { promise = d.promise; is_in = d.is_in; node = d.node; ballot = d.ballot }

  -- if nothing is reported at a slot, no node heard voted there below the ballot
  none_voted : (s : ℕ) → first ≤ s → ((r : SlotReport V) → In r reports → r.slot ≡ s → ⊥) → NoneVoted l (is_heard heard) b s
  none_voted s from none x i heard_node at_s under =
      let r = vote_reported x i heard_node (omega arith) under in
      none r.report r.is_in (r.slot ∙ at_s)

  -- the highest report of a slot is of a proposal, and no node heard voted there under a higher
  -- ballot below b
  highest_voted : (s : ℕ) → first ≤ s → (r : SlotReport V) → IsHighest s reports r → HighestVoted l l.proposals (is_heard heard) b s r.value
  highest_voted s from r most =
      let t = reported_by l b pages heard h.each r most.is_in in
      let back = (h.sound.truthful t.promise t.is_in).backed r t.reported in
      record {
        ballot = r.ballot;
        under = subst (λ (c : Ballot). Under r.ballot c) t.ballot back.under;
        proposed = subst (λ (s : ℕ). In (proposal r.ballot s r.value) l.proposals) most.slot (h.sound.backed _ back.voted);
        highest = λ x i heard_node at_s under.
            let higher = vote_reported x i heard_node (let z : first ≤ x.slot = omega arith in z) under in
            upto_upto x.ballot higher.report.ballot r.ballot higher.upto (most.most higher.report higher.is_in (higher.slot ∙ at_s));
      }

  -- at a slot the value of its highest report, or a no-operation if there is none, is grounded
  fill_grounded : (s : ℕ) → first ≤ s → (o : Option (SlotReport V)) → HighestHolds s reports o → IsGrounded ws l l.proposals b s (reported_value o)
  fill_grounded s from None none = record { quorum = is_heard heard; majority = h.quorum; promised = all_promised; picks = inl (none_voted s from none) }
  fill_grounded s from (Some r) most = record { quorum = is_heard heard; majority = h.quorum; promised = all_promised; picks = inr (highest_voted s from r most) }

  -- the values proposed for the slots from s on, given the reports, are each grounded
  pub fills_grounded : (s count : ℕ) → first ≤ s → EachGrounded ws l b s (proposed_values reports s count)
  fills_grounded s zero from = tt
  fills_grounded s (suc count) from = (fill_grounded s from (highest_at s reports) (highest_holds s reports), fills_grounded (suc s) count (omega arith))

  -- a reported value was proposed, so it is a no-operation or was offered
  fill_brought : (s : ℕ) (o : Option (SlotReport V)) → HighestHolds s reports o → IsBrought offers (reported_value o)
  fill_brought s None none = tt
  fill_brought s (Some r) most =
      let t = reported_by l b pages heard h.each r most.is_in in
      h.sound.brought _ (h.sound.backed _ ((h.sound.truthful t.promise t.is_in).backed r t.reported).voted)

  -- the values proposed for the slots from s on, given the reports, are no-operations or were
  -- offered
  pub fills_brought : (s count : ℕ) → AllByRecursion (IsBrought offers) (proposed_values reports s count)
  fills_brought s zero = tt
  fills_brought s (suc count) = (fill_brought s (highest_at s reports) (highest_holds s reports), fills_brought (suc s) count)

  -- above all reported slots any value may be proposed
  pub free_above : (s : ℕ) → first ≤ s → top_or_first first reports ≤ s → IsFree ws l b s
  free_above s from above = record {
    quorum = is_heard heard;
    majority = h.quorum;
    promised = all_promised;
    none = none_voted s from (λ r i at_s. let low = below_top first reports r i in let no : ⊥ = omega arith in no);
  }

  -- each report is of a slot from `first` on
  pub reported_from : (r : SlotReport V) → In r reports → first ≤ r.slot
  reported_from r i =
      let t = reported_by l b pages heard h.each r i in
      let from = ((h.sound.truthful t.promise t.is_in).backed r t.reported).first in
      let start = same_first t.promise t.is_in t.ballot in
      omega (arith, start, from)
