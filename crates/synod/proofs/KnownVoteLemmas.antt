-- Which pages are there and which votes are known, after one more has come.
use Rattle.synod.proofs.Words.{◌≡◌, ◌≢◌, ℕ, zero, suc, Bool, true, false, is_some, List, [], ◌∷◌, Option, Some, ◌⊎◌, inl, inr, refl, ap, sym, ◌∙◌, subst, if◌then◌else◌, get_or, set, replicate, entry_at, put_at, put_either, Ballot, SlotReport, Tally, is_same, pages_from, page_of, with_page, is_voter, no_voters, voted_in, tallies_at, has_voter, counted_in, counted}
use Rattle.synod.proofs.BallotsLemmas.{same_true}

-- after a write at i, the element at k is the one written, or is as before
set_either : {A : Type 0} (xs : List A) (i k : ℕ) (v d : A) → ((k ≡ i) × (get_or (set xs i v) k d ≡ v)) ⊎ (get_or (set xs i v) k d ≡ get_or xs k d)
set_either [] i k v d = inr refl
set_either (x ∷ xs) zero zero v d = inl (refl, refl)
set_either (x ∷ xs) zero (suc k) v d = inr refl
set_either (x ∷ xs) (suc i) zero v d = inr refl
set_either (x ∷ xs) (suc i) (suc k) v d = elim (set_either xs i k v d) [ inl h ↦ inl (ap suc h.0, h.1) | inr e ↦ inr e ]

-- Pages.

abbrev IsPut : {V : Type 0} → ℕ → ℕ → List (SlotReport V) → ℕ → ℕ → List (SlotReport V) → Type 0
IsPut p i reports k j page = (k ≡ p) × (j ≡ i) × (reports ≡ page)

module _ {V : Type 0} (pages : List (List (Option (List (SlotReport V))))) (p i : ℕ) (reports : List (SlotReport V)) where
  -- with a page put into the map of its node, each page of the node was there before or is the one
  -- put
  put_page : (k j : ℕ) (page : List (SlotReport V)) (m : List (Option (List (SlotReport V)))) → (k ≡ p) → m ≡ put_at (pages_from pages p) i reports
      → ((j ≡ i) × (entry_at (put_at (pages_from pages p) i reports) j ≡ Some reports)) ⊎ (entry_at (put_at (pages_from pages p) i reports) j ≡ entry_at (pages_from pages p) j)
      → entry_at m j ≡ Some page → (page_of pages k j ≡ Some page) ⊎ IsPut p i reports k j page
  put_page k j page m same is (inl here) h = inr (same, here.0, cc)
  put_page k j page m same is (inr old) h =
      let e : entry_at (pages_from pages p) j ≡ Some page = sym old ∙ ap (λ (m : List (Option (List (SlotReport V)))). entry_at m j) (sym is) ∙ h in
      inl (subst (λ (k : ℕ). page_of pages k j ≡ Some page) (sym same) e)

  -- with a page put into the map of its node, each page of any node was there before or is the one
  -- put
  set_page : (k j : ℕ) (page : List (SlotReport V)) → let m : List (Option (List (SlotReport V))) = put_at (pages_from pages p) i reports in
      ((k ≡ p) × (pages_from (set pages p m) k ≡ m)) ⊎ (pages_from (set pages p m) k ≡ pages_from pages k)
      → page_of (set pages p m) k j ≡ Some page → (page_of pages k j ≡ Some page) ⊎ IsPut p i reports k j page
  set_page k j page (inl here) h = put_page k j page _ here.0 here.1 (put_either (pages_from pages p) i j reports) h
  set_page k j page (inr old) h = inl (ap (λ (m : List (Option (List (SlotReport V)))). entry_at m j) (sym old) ∙ h)

  -- the same whether the map is replaced or stays
  had_page : (t : Bool) (k j : ℕ) (page : List (SlotReport V)) → page_of (if t then pages else set pages p (put_at (pages_from pages p) i reports)) k j ≡ Some page
      → (page_of pages k j ≡ Some page) ⊎ IsPut p i reports k j page
  had_page true k j page h = inl h
  had_page false k j page h = set_page k j page (set_either pages p k (put_at (pages_from pages p) i reports) []) h

  -- with a page added, each page was there before or is the one added
  pub page_either : (k j : ℕ) (page : List (SlotReport V)) → page_of (with_page pages p i reports) k j ≡ Some page → (page_of pages k j ≡ Some page) ⊎ IsPut p i reports k j page
  page_either k j page h = had_page (is_some (page_of pages p i)) k j page h

  -- the pages of another node stay, whether the map is replaced or stays
  other_if : (t : Bool) (k : ℕ) → k ≢ p → pages_from (if t then pages else set pages p (put_at (pages_from pages p) i reports)) k ≡ pages_from pages k
  other_if true k other = refl
  other_if false k other = elim (set_either pages p k (put_at (pages_from pages p) i reports) []) [ inl here ↦ absurd (other here.0) | inr old ↦ old ]

  -- the pages of every other node stay
  pub other_pages : (k : ℕ) → k ≢ p → pages_from (with_page pages p i reports) k ≡ pages_from pages k
  other_pages k other = other_if (is_some (page_of pages p i)) k other

-- Votes.

abbrev IsCount : Ballot → ℕ → Ballot → ℕ → Type 0
IsCount b p c k = (c ≡ b) × (p ≡ k)

-- with a voter marked, each voter was marked before or is that one
set_voter : (voters : List Bool) (p k : ℕ) → is_voter (set voters p true) k ≡ true → (is_voter voters k ≡ true) ⊎ (p ≡ k)
set_voter voters p k h = elim (set_either voters p k true false) [ inl here ↦ inr (sym here.0) | inr old ↦ inl (sym old ∙ h) ]

-- if nobody is marked, there is no voter
no_voter : (count k : ℕ) → is_voter (replicate count false) k ≡ true → ⊥
no_voter zero k h = cc
no_voter (suc count) zero h = cc
no_voter (suc count) (suc k) h = no_voter count k h

-- in a new tally only the counted vote is known
first_vote : (b c : Ballot) (p k : ℕ) (t : Bool) → is_same b c ≡ t → (if t then is_voter (set no_voters p true) k else false) ≡ true → IsCount b p c k
first_vote b c p k true same h = (sym (same_true b c same), elim (set_voter no_voters p k h) [ inl old ↦ absurd (no_voter 9 k old) | inr new ↦ new ])
first_vote b c p k false same h = cc

-- if the first tally is of the vote's ballot, each voter counted was counted before or is that of
-- the vote
same_tally : (t : Tally) (ts : List Tally) (b c : Ballot) (p k : ℕ) (u : Bool) → is_same t.ballot b ≡ true → is_same t.ballot c ≡ u
    → (if u then is_voter (set t.voters p true) k else voted_in ts c k) ≡ true → ((if u then is_voter t.voters k else voted_in ts c k) ≡ true) ⊎ IsCount b p c k
same_tally t ts b c p k false same other h = inl h
same_tally t ts b c p k true same other h = elim (set_voter t.voters p k h) [
  | inl old ↦ inl old
  | inr new ↦ inr (sym (same_true t.ballot c other) ∙ same_true t.ballot b same, new)
]

-- if the first tally is of another ballot, the same follows from the later tallies
other_tally : (t : Tally) (ts us : List Tally) (b c : Ballot) (p k : ℕ) (u : Bool) → (voted_in us c k ≡ true → (voted_in ts c k ≡ true) ⊎ IsCount b p c k)
    → (if u then is_voter t.voters k else voted_in us c k) ≡ true → ((if u then is_voter t.voters k else voted_in ts c k) ≡ true) ⊎ IsCount b p c k
other_tally t ts us b c p k true more h = inl h
other_tally t ts us b c p k false more h = more h

-- the same for a list of tallies, whether or not the first is of the vote's ballot
counted_tally : (t : Tally) (ts : List Tally) (b c : Ballot) (p k : ℕ) (u : Bool) → is_same t.ballot b ≡ u → (voted_in (counted_in ts b p) c k ≡ true → (voted_in ts c k ≡ true) ⊎ IsCount b p c k)
    → voted_in (if u then (record { ballot = t.ballot; voters = set t.voters p true } ∷ ts) else (t ∷ counted_in ts b p)) c k ≡ true → (voted_in (t ∷ ts) c k ≡ true) ⊎ IsCount b p c k
counted_tally t ts b c p k true same more h = same_tally t ts b c p k (is_same t.ballot c) same refl h
counted_tally t ts b c p k false same more h = other_tally t ts (counted_in ts b p) b c p k (is_same t.ballot c) more h

-- with a vote counted, each voter in the tallies was counted before or is that one
counted_in_either : (ts : List Tally) (b c : Ballot) (p k : ℕ) → voted_in (counted_in ts b p) c k ≡ true → (voted_in ts c k ≡ true) ⊎ IsCount b p c k
counted_in_either [] b c p k h = inr (first_vote b c p k (is_same b c) refl h)
counted_in_either (t ∷ ts) b c p k h = counted_tally t ts b c p k (is_same t.ballot b) refl (counted_in_either ts b c p k) h

abbrev pub IsCounted : ℕ → Ballot → ℕ → ℕ → Ballot → ℕ → Type 0
IsCounted s b p t c k = (t ≡ s) × (c ≡ b) × (p ≡ k)

module _ (tallies : List (Option (List Tally))) (s : ℕ) (b : Ballot) (p : ℕ) where
  -- at the slot of the vote each known voter was known before or is the one counted
  at_slot : (t : ℕ) (c : Ballot) (k : ℕ) → t ≡ s → (voted_in (tallies_at (entry_at tallies s)) c k ≡ true) ⊎ IsCount b p c k → (has_voter tallies t c k ≡ true) ⊎ IsCounted s b p t c k
  at_slot t c k e (inl old) = inl (subst (λ (u : ℕ). has_voter tallies u c k ≡ true) (sym e) old)
  at_slot t c k e (inr new) = inr (e, new.0, new.1)

  -- at any slot each known voter was known before or is the one counted, whether or not the slot is
  -- that of the vote
  counted_at : (t : ℕ) (c : Ballot) (k : ℕ) (ts : List Tally) → ts ≡ counted_in (tallies_at (entry_at tallies s)) b p
      → ((t ≡ s) × (entry_at (put_at tallies s ts) t ≡ Some ts)) ⊎ (entry_at (put_at tallies s ts) t ≡ entry_at tallies t)
      → voted_in (tallies_at (entry_at (put_at tallies s ts) t)) c k ≡ true → (has_voter tallies t c k ≡ true) ⊎ IsCounted s b p t c k
  counted_at t c k ts is (inl here) h =
      let now : voted_in ts c k ≡ true = subst (λ (o : Option (List Tally)). voted_in (tallies_at o) c k ≡ true) here.1 h in
      at_slot t c k here.0 (counted_in_either (tallies_at (entry_at tallies s)) b c p k (subst (λ (us : List Tally). voted_in us c k ≡ true) is now))
  counted_at t c k ts is (inr old) h = inl (subst (λ (o : Option (List Tally)). voted_in (tallies_at o) c k ≡ true) old h)

  -- with a vote counted, each known voter was known before or is the one counted
  pub counted_either : (t : ℕ) (c : Ballot) (k : ℕ) → has_voter (counted tallies s b p) t c k ≡ true → (has_voter tallies t c k ≡ true) ⊎ IsCounted s b p t c k
  counted_either t c k h =
      let ts : List Tally = counted_in (tallies_at (entry_at tallies s)) b p in
      counted_at t c k ts refl (put_either tallies s t ts) h
