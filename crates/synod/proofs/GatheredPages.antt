-- A new page is kept, and completes the promise of its sender if no page is missing.
use Rattle.synod.proofs.Words.{◌≡◌, ◌∙◌, ◌<◌, ◌≤◌, ◌-◌, ◌&&◌, not, ℕ, Bool, true, false, List, [], ◌∷◌, ◌++◌, Option, None, length, ap, sym, arith, if◌then◌else◌, nat_tests, get_or_past, set_past, entry_at, put_at, front_of, Ballot, Role, Preparing, is_same, is_quorum, are_received, SlotReport, Packet, Heard, AddPage, CompletePromise, Node, StepResult, unchanged, volatile_step, kept_of, pages_from, page_of, with_page, is_heard, ProposerState, assembled, proposer_state, learner_state, adds_page, completes_promise, on_complete_promise, leads_with, on_promise_page, on_promise_as, on_promise, with_proposer_update}
use Rattle.synod.proofs.PagesWithDeliveredLemmas.{with_new}

abbrev pub with_proposing : {V : Type 0} → Node V → ProposerState V → Node V
with_proposing n p = assembled n.me n.weights (kept_of n) p (learner_state n)

module _ {V : Type 0} (m n : Node V) (same : m ≡ n) (p : ProposerState V) (room : p ≡ proposer_state m) (i : ℕ) (reports copy : List (SlotReport V)) (copied : copy ≡ reports)
    (posts : List (Packet V)) (no_posts : posts ≡ []) where
  -- a new page that completes no promise updates the proposer with the page
  pub keep_step : (k : ℕ) → page_of m.pages k i ≡ None → adds_page n (with_page n.pages k i reports) ≡ volatile_step (with_proposer_update (with_proposing m p) (AddPage k i copy)) posts
  keep_step k none =
      ap (λ (x : Node V). adds_page x (with_page x.pages k i reports)) (sym same)
      ∙ ap (λ (ps : List (List (Option (List (SlotReport V))))). adds_page m ps) (with_new m.pages k i reports none)
      ∙ (λ j. volatile_step (with_proposer_update (with_proposing m (sym room j)) (AddPage k i (sym copied j))) (sym no_posts j))

  -- a new page that completes the promise of its sender updates the proposer with the page and the
  -- sender, if there is no quorum yet
  pub hear_step : (h : Heard) → page_of m.pages h.node i ≡ None
      → completes_promise n (with_page n.pages h.node i reports) (n.heard ++ h ∷ []) ≡ volatile_step (with_proposer_update (with_proposing m p) (CompletePromise h i copy)) posts
  hear_step h none =
      ap (λ (x : Node V). completes_promise x (with_page x.pages h.node i reports) (x.heard ++ h ∷ [])) (sym same)
      ∙ ap (λ (ps : List (List (Option (List (SlotReport V))))). completes_promise m ps (m.heard ++ h ∷ [])) (with_new m.pages h.node i reports none)
      ∙ (λ j. volatile_step (with_proposer_update (with_proposing m (sym room j)) (CompletePromise h i (sym copied j))) (sym no_posts j))

-- The branches for a page.

module _ {V : Type 0} (n : Node V) (k : ℕ) (b : Ballot) (first count : ℕ) (pages : List (List (Option (List (SlotReport V))))) where
  abbrev had_if : Bool → StepResult V
  had_if t = if t then on_complete_promise n b first pages (n.heard ++ record { node = k; count = count } ∷ []) else adds_page n pages

  -- if a page of the promise is still missing, the pages are kept
  pub gathers_not_all : front_of (pages_from pages k) < count → on_promise_page n k b first count pages ≡ adds_page n pages
  gathers_not_all few = let t : are_received (pages_from pages k) count ≡ false = grind (arith, nat_tests) in ap had_if t

  -- if all pages of the promise are there, the sender is heard, and with a quorum the node leads
  pub gathers_all : count ≤ front_of (pages_from pages k) → (q : Bool) → is_quorum n.weights (is_heard (n.heard ++ record { node = k; count = count } ∷ [])) ≡ q
      → on_promise_page n k b first count pages ≡ (if q then leads_with n b first pages (n.heard ++ record { node = k; count = count } ∷ []) else completes_promise n pages (n.heard ++ record { node = k; count = count } ∷ []))
  gathers_all all q quorum =
      let t : are_received (pages_from pages k) count ≡ true = grind (arith, nat_tests) in
      ap had_if t
      ∙ ap (λ (q : Bool). if q then leads_with n b first pages (n.heard ++ record { node = k; count = count } ∷ []) else completes_promise n pages (n.heard ++ record { node = k; count = count } ∷ [])) quorum

-- a page from a number that no node has changes nothing
pub gathers_none : {V : Type 0} (n : Node V) (k i : ℕ) (b : Ballot) (first count : ℕ) (reports : List (SlotReport V)) → length n.pages ≤ k → 1 ≤ count → on_promise_page n k b first count (with_page n.pages k i reports) ≡ unchanged n
gathers_none {V} n k i b first count reports past some =
    let none : pages_from n.pages k ≡ [] = get_or_past n.pages k [] past in
    let no_page : page_of n.pages k i ≡ None = ap (λ (m : List (Option (List (SlotReport V)))). entry_at m i) none in
    let same : with_page n.pages k i reports ≡ n.pages = with_new n.pages k i reports no_page ∙ set_past n.pages k (put_at (pages_from n.pages k) i reports) past in
    let front : front_of (pages_from n.pages k) ≡ 0 = ap (λ (m : List (Option (List (SlotReport V)))). front_of m) none in
    ap (λ (ps : List (List (Option (List (SlotReport V))))). on_promise_page n k b first count ps) same
    ∙ gathers_not_all n k b first count n.pages (omega (arith, front, some))

abbrev asked : {V : Type 0} → Node V → ℕ → Ballot → ℕ → ℕ → ℕ → List (SlotReport V) → Bool → Bool → StepResult V
asked n k c first page count reports same heard =
    if same && not heard then on_promise_page n k c first count (with_page n.pages k (page - 1) reports) else unchanged n

-- a Promise from a number that no node has changes nothing
pub promise_of_none : {V : Type 0} (n : Node V) (c : Ballot) (first : ℕ) → n.role ≡ Preparing c first → (k : ℕ) (b : Ballot) (page count : ℕ) (reports : List (SlotReport V)) → length n.pages ≤ k → 1 ≤ count
    → is_same b c ≡ true → is_heard n.heard k ≡ false → on_promise n k b page count reports ≡ unchanged n
promise_of_none {V} n c first role k b page count reports past some same heard =
    ap (λ (r : Role). on_promise_as r n k b page count reports) role
    ∙ (λ i. asked n k c first page count reports (same i) (heard i))
    ∙ gathers_none n k (page - 1) c first count reports past some
