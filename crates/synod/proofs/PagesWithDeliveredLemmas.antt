-- The pages with one that was just delivered.
use Rattle.synod.proofs.Words.{◌≡◌, ◌≢◌, ◌∙◌, ◌<◌, ◌⊎◌, inl, inr, ℕ, Bool, true, false, List, [], Option, Some, None, MatchOption, is_some, length, set, refl, ap, sym, if◌then◌else◌, get_or-set_same, get_or-set_other, cases_eq, entry_at, put_at, put_either, put_same, SlotReport, pages_from, page_of, with_page}
use Rattle.std.proofs.Common.{Bor}

-- a page that is there is not missing
had_not : {X : Type 0} (o : Option X) (x : X) → o ≡ Some x → is_some o ≡ false → ⊥
had_not None x e n = cc
had_not (Some y) x e n = cc

module _ {V : Type 0} (pages : List (List (Option (List (SlotReport V))))) (k i : ℕ) (reports : List (SlotReport V)) where
  abbrev with_if : Bool → List (List (Option (List (SlotReport V))))
  with_if t = if t then pages else set pages k (put_at (pages_from pages k) i reports)

  -- if the page is new, it is put into the map of its node
  pub with_new : page_of pages k i ≡ None → with_page pages k i reports ≡ set pages k (put_at (pages_from pages k) i reports)
  with_new none = ap (λ (o : Option (List (SlotReport V))). with_if (is_some o)) none

  -- if the page was there before, nothing changes
  pub with_had : is_some (page_of pages k i) ≡ true → with_page pages k i reports ≡ pages
  with_had some = ap with_if some

  -- a new page of one of the nodes is there afterwards
  pub page_new : page_of pages k i ≡ None → k < length pages → page_of (with_page pages k i reports) k i ≡ Some reports
  page_new none within =
      ap (λ (ps : List (List (Option (List (SlotReport V))))). page_of ps k i) (with_new none)
      ∙ ap (λ (m : List (Option (List (SlotReport V)))). entry_at m i) (get_or-set_same pages k (put_at (pages_from pages k) i reports) [] within)
      ∙ put_same (pages_from pages k) i reports

  -- putting a page leaves the other pages of the node
  put_other : (j : ℕ) → j ≢ i → (m : List (Option (List (SlotReport V)))) → entry_at (put_at m i reports) j ≡ entry_at m j
  put_other j other m = elim (put_either m i j reports) [ inl h ↦ absurd (other h.0) | inr h ↦ h ]

  -- putting a page leaves those at other indices, of this node and of others
  set_at : (l j : ℕ) → j ≢ i → k < length pages → (l ≡ k) ⊎ (l ≢ k) → page_of (set pages k (put_at (pages_from pages k) i reports)) l j ≡ page_of pages l j
  set_at l j other within (inl same) =
      ap (λ (n : ℕ). page_of (set pages k (put_at (pages_from pages k) i reports)) n j) same
      ∙ ap (λ (m : List (Option (List (SlotReport V)))). entry_at m j) (get_or-set_same pages k (put_at (pages_from pages k) i reports) [] within)
      ∙ put_other j other (pages_from pages k)
      ∙ ap (λ (n : ℕ). page_of pages n j) (sym same)
  set_at l j other within (inr apart) =
      ap (λ (m : List (Option (List (SlotReport V)))). entry_at m j) (get_or-set_other pages k l (put_at (pages_from pages k) i reports) [] apart)

  -- each other page stays, whether the delivered page is new or not
  other_if : (t : Bool) (l j : ℕ) → (l ≢ k) ⊎ (j ≢ i) → k < length pages → page_of (with_if t) l j ≡ page_of pages l j
  other_if true l j other within = refl
  other_if false l j (inl other) within =
      ap (λ (m : List (Option (List (SlotReport V)))). entry_at m j) (get_or-set_other pages k l (put_at (pages_from pages k) i reports) [] other)
  other_if false l j (inr other) within = set_at l j other within (cases_eq l k)

  -- each other page stays
  pub page_other : (l j : ℕ) → (l ≢ k) ⊎ (j ≢ i) → k < length pages → page_of (with_page pages k i reports) l j ≡ page_of pages l j
  page_other l j other within = other_if (is_some (page_of pages k i)) l j other within

  -- each page that was there stays, whether or not it is the delivered one and that was there
  -- before
  stays_if : (t : Bool) → is_some (page_of pages k i) ≡ t → (l j : ℕ) (page : List (SlotReport V)) → page_of pages l j ≡ Some page → k < length pages → (l ≡ k) ⊎ (l ≢ k) → (j ≡ i) ⊎ (j ≢ i)
      → page_of (with_page pages k i reports) l j ≡ Some page
  stays_if true e l j page had within a b = ap (λ (ps : List (List (Option (List (SlotReport V))))). page_of ps l j) (with_had e) ∙ had
  stays_if false e l j page had within (inr other) b = page_other l j (inl other) within ∙ had
  stays_if false e l j page had within (inl same) (inr other) = page_other l j (inr other) within ∙ had
  stays_if false e l j page had within (inl same) (inl here) =
      let at : page_of pages k i ≡ Some page = ap (λ (n : ℕ). page_of pages n i) (sym same) ∙ ap (λ (n : ℕ). page_of pages l n) (sym here) ∙ had in
      absurd (had_not (page_of pages k i) page at e)

  -- each page that was there stays
  pub page_stays : (l j : ℕ) (page : List (SlotReport V)) → page_of pages l j ≡ Some page → k < length pages → page_of (with_page pages k i reports) l j ≡ Some page
  page_stays l j page had within = stays_if (is_some (page_of pages k i)) refl l j page had within (cases_eq l k) (cases_eq j i)

  -- a page that a look-up found stays
  pub match_stays : (l j : ℕ) (r : Option (Bor (List (SlotReport V)))) → MatchOption r (page_of pages l j ≡ None) (λ x. page_of pages l j ≡ Some x.now) → (b : Bool) → b ≡ is_some r → b ≡ true → k < length pages
      → MatchOption r (page_of (with_page pages k i reports) l j ≡ None) (λ x. page_of (with_page pages k i reports) l j ≡ Some x.now)
  match_stays l j None had b told some within = cc
  match_stays l j (Some x) had b told some within = page_stays l j x.now had within

  -- a new page is put into the pages of its node
  pub pages_new : page_of pages k i ≡ None → k < length pages → pages_from (with_page pages k i reports) k ≡ put_at (pages_from pages k) i reports
  pages_new none within =
      ap (λ (ps : List (List (Option (List (SlotReport V))))). pages_from ps k) (with_new none)
      ∙ get_or-set_same pages k (put_at (pages_from pages k) i reports) [] within

-- a page that a look-up found is there
pub some_is : {X : Type 0} (r : Option (Bor X)) (o : Option X) → MatchOption r (o ≡ None) (λ x. o ≡ Some x.now) → (b : Bool) → b ≡ is_some r → b ≡ true → is_some o ≡ true
some_is None o had b told some = cc
some_is {X} (Some x) o had b told some = ap (λ (o : Option X). is_some o) had
