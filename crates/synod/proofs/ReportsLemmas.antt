-- The reports of accepted entries, and the highest of them.
use Rattle.synod.proofs.Words.{AcceptedEntry, ◌≡◌, ℕ, zero, suc, ◌+◌, ◌<◌, ◌≤◌, max, Bool, true, false, ◌==◌, nat_lt, List, [], ◌∷◌, Option, Some, None, inl, inr, refl, ap, ◌∙◌, subst, arith, ltb-true, ltb-false, eqb-true, if◌then◌else◌, nat_tests, In, entry_at, Ballot, SlotReport, is_below, reports_from, higher, highest_at, top_or_zero, top_or_first}
use Rattle.synod.proofs.BallotsLemmas.{Upto, upto_self, under_true, under_false, under_is_upto, upto_upto}

-- the report is of the entry that is accepted at its slot, in a list that begins at slot s
pub record IsReport {V : Type 0} (first s : ℕ) (hs : List (Option (AcceptedEntry V))) (r : SlotReport V) : Type 0 where
  pub index : ℕ
  pub entry : AcceptedEntry V
  pub is_held : entry_at hs index ≡ Some entry
  pub slot : r.slot ≡ s + index
  pub ballot : r.ballot ≡ entry.ballot
  pub value : r.value ≡ entry.value
  pub from_first : first ≤ r.slot

-- a report of the later entries is one of the list with an entry in front
next_report : {V : Type 0} {first s : ℕ} {hs : List (Option (AcceptedEntry V))} {r : SlotReport V} (x : Option (AcceptedEntry V)) → IsReport first (suc s) hs r → IsReport first s (x ∷ hs) r
next_report x h = record { index = suc h.index; entry = h.entry; is_held = h.is_held; slot = omega (arith, h.slot); ballot = h.ballot; value = h.value; from_first = h.from_first }

-- if the first slot has an entry, each report is of it, unless it is passed over, or of a later one
here_held : {V : Type 0} (first s : ℕ) (h : AcceptedEntry V) (hs : List (Option (AcceptedEntry V))) (r : SlotReport V) (b : Bool) → nat_lt s first ≡ b
    → In r (if b then reports_from first (suc s) hs else (record { slot = s; ballot = h.ballot; value = h.value } ∷ reports_from first (suc s) hs))
    → (In r (reports_from first (suc s) hs) → IsReport first (suc s) hs r) → IsReport first s (Some h ∷ hs) r
here_held first s h hs r true e i more = next_report (Some h) (more i)
here_held {V} first s h hs r false e (inl d) more = subst (λ (r : SlotReport V). IsReport first s (Some h ∷ hs) r) d record {
  index = 0;
  entry = h;
  is_held = refl;
  slot = omega arith;
  ballot = refl;
  value = refl;
  from_first = ltb-false _ _ e;
}
here_held first s h hs r false e (inr i) more = next_report (Some h) (more i)

pub reports-held : {V : Type 0} (first s : ℕ) (hs : List (Option (AcceptedEntry V))) (r : SlotReport V) → In r (reports_from first s hs) → IsReport first s hs r
reports-held first s [] r i = elim i [ ]
reports-held first s (None ∷ hs) r i = next_report None (reports-held first (suc s) hs r i)
reports-held first s (Some h ∷ hs) r i = here_held first s h hs r (nat_lt s first) refl i (reports-held first (suc s) hs r)

-- one of the reports is of the slot under the ballot
pub record HasReport {V : Type 0} (s : ℕ) (b : Ballot) (rs : List (SlotReport V)) : Type 0 where
  pub report : SlotReport V
  pub is_in : In report rs
  pub slot : report.slot ≡ s
  pub ballot : report.ballot ≡ b

-- a slot that is reported is so with one report more
one_more : {V : Type 0} {slot : ℕ} {b : Ballot} {rs : List (SlotReport V)} (r : SlotReport V) → HasReport slot b rs → HasReport slot b (r ∷ rs)
one_more r h = record { report = h.report; is_in = inr h.is_in; slot = h.slot; ballot = h.ballot }

-- a slot that is reported among later entries is reported, whether or not the entry before them is
-- passed over
here_reported : {V : Type 0} (first s : ℕ) (h : AcceptedEntry V) (hs : List (Option (AcceptedEntry V))) (slot : ℕ) (ballot : Ballot) (b : Bool) → nat_lt s first ≡ b
    → HasReport slot ballot (reports_from first (suc s) hs)
    → HasReport slot ballot (if b then reports_from first (suc s) hs else (record { slot = s; ballot = h.ballot; value = h.value } ∷ reports_from first (suc s) hs))
here_reported first s h hs slot ballot true e m = m
here_reported first s h hs slot ballot false e m = one_more _ m

-- an entry is reported at its slot, if that is not below the first slot asked for
is_here : {V : Type 0} (first s : ℕ) (h : AcceptedEntry V) (rs : List (SlotReport V)) (slot : ℕ) (b : Bool) → nat_lt s first ≡ b → first ≤ slot → s ≡ slot
    → HasReport slot h.ballot (if b then rs else (record { slot = s; ballot = h.ballot; value = h.value } ∷ rs))
is_here first s h rs slot true e l d = let f = ltb-true _ _ e in absurd (omega arith)
is_here first s h rs slot false e l d = record { report = record { slot = s; ballot = h.ballot; value = h.value }; is_in = inl refl; slot = d; ballot = refl }

pub held-reported : {V : Type 0} (first s : ℕ) (hs : List (Option (AcceptedEntry V))) (i : ℕ) (x : AcceptedEntry V) (slot : ℕ) → entry_at hs i ≡ Some x → slot ≡ s + i → first ≤ slot → HasReport slot x.ballot (reports_from first s hs)
held-reported first s [] i x slot e d l = cc
held-reported first s (None ∷ hs) zero x slot e d l = cc
held-reported first s (None ∷ hs) (suc i) x slot e d l = held-reported first (suc s) hs i x slot e (omega arith) l
held-reported {V} first s (Some h ∷ hs) zero x slot e d l =
    let p : h ≡ x = cc in
    subst (λ (y : AcceptedEntry V). HasReport slot y.ballot (reports_from first s (Some h ∷ hs))) p
    (is_here first s h (reports_from first (suc s) hs) slot (nat_lt s first) refl l (omega arith))
held-reported first s (Some h ∷ hs) (suc i) x slot e d l =
    here_reported first s h hs slot x.ballot (nat_lt s first) refl (held-reported first (suc s) hs i x slot e (omega arith) l)

-- The highest report.

pub record IsHighest {V : Type 0} (s : ℕ) (rs : List (SlotReport V)) (r : SlotReport V) : Type 0 where
  pub is_in : In r rs
  pub slot : r.slot ≡ s
  pub most : (q : SlotReport V) → In q rs → q.slot ≡ s → Upto q.ballot r.ballot

abbrev pub HighestHolds : {V : Type 0} → ℕ → List (SlotReport V) → Option (SlotReport V) → Type 0
HighestHolds {V} s rs None = (q : SlotReport V) → In q rs → q.slot ≡ s → ⊥
HighestHolds s rs (Some r) = IsHighest s rs r

-- if no report is of the slot, none is with a report of another slot added
more_none : {V : Type 0} (s : ℕ) (r : SlotReport V) (rs : List (SlotReport V)) → (r.slot ≡ s → ⊥) → HighestHolds s rs None → HighestHolds s (r ∷ rs) None
more_none {V} s r rs n h q (inl e) d = n (ap (λ (x : SlotReport V). x.slot) e ∙ d)
more_none s r rs n h q (inr i) d = h q i d

-- if the report added is of another slot or no higher, no report of the slot is higher than the
-- highest
more_some : {V : Type 0} (s : ℕ) (r : SlotReport V) (rs : List (SlotReport V)) (p : SlotReport V) → (r.slot ≡ s → Upto r.ballot p.ballot) → IsHighest s rs p → (q : SlotReport V) → In q (r ∷ rs) → q.slot ≡ s → Upto q.ballot p.ballot
more_some {V} s r rs p n h q (inl e) d = subst (λ (x : SlotReport V). Upto x.ballot p.ballot) e (n (ap (λ (x : SlotReport V). x.slot) e ∙ d))
more_some s r rs p n h q (inr i) d = h.most q i d

-- if the report added is of another slot or no higher, the highest report stays
kept_highest : {V : Type 0} (s : ℕ) (r : SlotReport V) (rs : List (SlotReport V)) (p : SlotReport V) → (r.slot ≡ s → Upto r.ballot p.ballot) → IsHighest s rs p → IsHighest s (r ∷ rs) p
kept_highest s r rs p n h = record { is_in = inr h.is_in; slot = h.slot; most = more_some s r rs p n h }

-- if no other report is of the slot, none has a ballot higher than that of the report added
alone_most : {V : Type 0} (s : ℕ) (r : SlotReport V) (rs : List (SlotReport V)) → HighestHolds s rs None → (q : SlotReport V) → In q (r ∷ rs) → q.slot ≡ s → Upto q.ballot r.ballot
alone_most {V} s r rs h q (inl e) d = subst (λ (x : SlotReport V). Upto x.ballot r.ballot) e (upto_self r.ballot)
alone_most s r rs h q (inr i) d = absurd (h q i d)

-- if the highest report is at most as high as the one added, no report of the slot is higher than
-- the one added
over_most : {V : Type 0} (s : ℕ) (r : SlotReport V) (rs : List (SlotReport V)) (p : SlotReport V) → Upto p.ballot r.ballot → IsHighest s rs p → (q : SlotReport V) → In q (r ∷ rs) → q.slot ≡ s → Upto q.ballot r.ballot
over_most {V} s r rs p u h q (inl e) d = subst (λ (x : SlotReport V). Upto x.ballot r.ballot) e (upto_self r.ballot)
over_most s r rs p u h q (inr i) d = upto_upto q.ballot p.ballot r.ballot (h.most q i d) u

-- with a report of the slot added, the highest is the old one or the new one, by the test of their
-- ballots
higher_either : {V : Type 0} (s : ℕ) (r : SlotReport V) (rs : List (SlotReport V)) (p : SlotReport V) (b : Bool) → is_below r.ballot p.ballot ≡ b → r.slot ≡ s → IsHighest s rs p → HighestHolds s (r ∷ rs) (if b then Some p else Some r)
higher_either s r rs p true e d h = kept_highest s r rs p (λ _. under_is_upto _ _ (under_true _ _ e)) h
higher_either s r rs p false e d h = record { is_in = inl refl; slot = d; most = over_most s r rs p (under_false _ _ e) h }

-- with a report of the slot added, the higher one is the highest
higher_holds : {V : Type 0} (s : ℕ) (r : SlotReport V) (rs : List (SlotReport V)) (o : Option (SlotReport V)) → r.slot ≡ s → HighestHolds s rs o → HighestHolds s (r ∷ rs) (higher r o)
higher_holds s r rs None d h = record { is_in = inl refl; slot = d; most = alone_most s r rs h }
higher_holds s r rs (Some p) d h = higher_either s r rs p (is_below r.ballot p.ballot) refl d h

-- with a report of another slot added, the highest stays
other_holds : {V : Type 0} (s : ℕ) (r : SlotReport V) (rs : List (SlotReport V)) (o : Option (SlotReport V)) → (r.slot ≡ s → ⊥) → HighestHolds s rs o → HighestHolds s (r ∷ rs) o
other_holds s r rs None n h = more_none s r rs n h
other_holds s r rs (Some p) n h = kept_highest s r rs p (λ d. absurd (n d)) h

-- with any report added, the highest is found by the test of its slot
either_holds : {V : Type 0} (s : ℕ) (r : SlotReport V) (rs : List (SlotReport V)) (b : Bool) → (r.slot == s) ≡ b → HighestHolds s rs (highest_at s rs) → HighestHolds s (r ∷ rs) (if b then higher r (highest_at s rs) else highest_at s rs)
either_holds s r rs true e h = higher_holds s r rs (highest_at s rs) (eqb-true _ _ e) h
either_holds s r rs false e h = other_holds s r rs (highest_at s rs) (λ d. grind (arith, nat_tests)) h

-- the report found is the highest of its slot, or if none is found there is none
pub highest_holds : {V : Type 0} (s : ℕ) (rs : List (SlotReport V)) → HighestHolds s rs (highest_at s rs)
highest_holds s [] = λ q i d. elim i [ ]
highest_holds s (r ∷ rs) = either_holds s r rs (r.slot == s) refl (highest_holds s rs)

-- The top.

-- each report is of a slot below the one after the greatest
pub above_each : {V : Type 0} (rs : List (SlotReport V)) (r : SlotReport V) → In r rs → r.slot < top_or_zero rs
above_each [] r i = elim i [ ]
above_each {V} (q ∷ rs) r (inl e) = subst (λ (x : SlotReport V). x.slot < max (q.slot + 1) (top_or_zero rs)) e (omega arith)
above_each (q ∷ rs) r (inr i) = let h = above_each rs r i in omega arith

-- each report is of a slot below the top
pub below_top : {V : Type 0} (first : ℕ) (rs : List (SlotReport V)) (r : SlotReport V) → In r rs → r.slot < top_or_first first rs
below_top first [] r i = elim i [ ]
below_top first (q ∷ rs) r i = above_each (q ∷ rs) r i

-- if no report is of a slot below the first one, the first slot is at most the top
pub first_to_top : {V : Type 0} (first : ℕ) (rs : List (SlotReport V)) → ((r : SlotReport V) → In r rs → first ≤ r.slot) → first ≤ top_or_first first rs
first_to_top first [] h = omega arith
first_to_top first (q ∷ rs) h = let l = h q (inl refl) in omega arith
