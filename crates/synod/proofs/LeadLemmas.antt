-- The step by which a node leads.
use Rattle.synod.proofs.Words.{◌≡◌, ◌∙◌, ℕ, List, [], Option, ap, sym, subst, Ballot, SlotReport, Packet, Heard, Leading, Lead, Node, volatile_step, kept_of, with_page, assembled, learner_state, all_reports, leads_with, with_proposer_update, IsLead}

-- if the posts, the next slot and the count of proposed values are those of a lead, the step is
-- this update of the proposer with these posts
leads_at : {V : Type 0} (m : Node V) (b : Ballot) (first : ℕ) (pages : List (List (Option (List (SlotReport V))))) (heard : List Heard) (posts : List (Packet V)) (next proposed : ℕ)
    → IsLead m.me m.weights b first (all_reports pages heard) m.waiting posts next proposed → leads_with m b first pages heard ≡ volatile_step (with_proposer_update m (Lead b next proposed)) posts
leads_at m b first pages heard posts next proposed is =
    λ i. volatile_step (assembled m.me m.weights (kept_of m) (record { role = Leading b (sym is.next_is i); pages = []; heard = []; waiting = sym is.still_waiting i }) (learner_state m)) (sym is.posted i)

-- the same when room has been made first, and the pages and the waiting values are given separately
pub lead_step : {V : Type 0} (m n : Node V) (same : m ≡ n) (had : List (List (Option (List (SlotReport V))))) (pages_are : had ≡ m.pages) (values : List V) (waiting_is : values ≡ m.waiting)
    (b : Ballot) (first k i : ℕ) (reports : List (SlotReport V)) (heard : List Heard) (posts : List (Packet V)) (next proposed : ℕ)
    → IsLead m.me m.weights b first (all_reports (with_page had k i reports) heard) values posts next proposed
    → leads_with n b first (with_page n.pages k i reports) heard ≡ volatile_step (with_proposer_update n (Lead b next proposed)) posts
lead_step {V} m n same had pages_are values waiting_is b first k i reports heard posts next proposed is =
    let seen = subst (λ (ps : List (List (Option (List (SlotReport V))))). IsLead m.me m.weights b first (all_reports (with_page ps k i reports) heard) values posts next proposed) pages_are is in
    let lead = subst (λ (vs : List V). IsLead m.me m.weights b first (all_reports (with_page m.pages k i reports) heard) vs posts next proposed) waiting_is seen in
    ap (λ (x : Node V). leads_with x b first (with_page x.pages k i reports) heard) (sym same)
    ∙ leads_at m b first (with_page m.pages k i reports) heard posts next proposed lead
    ∙ ap (λ (x : Node V). volatile_step (with_proposer_update x (Lead b next proposed)) posts) same
