-- A vote is counted in the tallies of its slot, whether the slot's first tally or a later one is of
-- its ballot.
use Rattle.synod.proofs.Words.{◌≡◌, ◌≢◌, ◌∙◌, ℕ, zero, suc, ◌+◌, ◌<◌, ◌==◌, ◌&&◌, Bool, true, false, List, [], ◌∷◌, Option, Some, None, Result, Ok, Err, inl, inr, refl, sym, ap, arith, if◌then◌else◌, option_map, IsOk, OnOk, cases_Bool, nat_tests, entry_at, put_at, put_same, put_either, lookup, insert_entry, Ballot, Tally, is_same, is_voter, with_voter, no_voters, voted_in, counted_in, tallies_at, has_voter, counted, tally, other_tallies_at, voters_among, tallies_from, IsLearner}

pub on_ok : {T E : Type 0} (r : Result T E) (P : Type 0) → IsOk r → OnOk r P → P
on_ok (Ok x) P ok h = h
on_ok (Err e) P ok h = cc

-- the comparison of two ballots is symmetric
same-swap : (a b : Ballot) → is_same a b ≡ is_same b a
same-swap a b = grind (arith, nat_tests)

abbrev pub same_key : ℕ × Ballot → ℕ × Ballot → Bool
same_key x y = (x.0 == y.0) && is_same x.1 y.1

abbrev pub Votes : Type 0
Votes = List ((ℕ × Ballot) × List Bool)

abbrev pub vote_put : Votes → ℕ → Ballot → ℕ → Votes
vote_put es s b k = insert_entry same_key es (s, b) (with_voter (voters_among es s b) k)

-- the voters that a look-up gives, or none
abbrev pub marks : Option (List Bool) → List Bool
marks None = no_voters
marks (Some voters) = voters

pub among-lookup : (es : Votes) (s : ℕ) (b : Ballot) → marks (lookup (same_key (s, b)) es) ≡ voters_among es s b
among-lookup [] s b = refl
among-lookup (e ∷ es) s b = elim (cases_Bool (same_key (s, b) e.0)) [
  | inl is ↦ rw is refl
  | inr not ↦ rw not (among-lookup es s b)
]

-- putting a vote counts it at its slot under its ballot
pub other_tallies-here : (es : Votes) (s : ℕ) (b : Ballot) (k : ℕ) → other_tallies_at (vote_put es s b k) s ≡ counted_in (other_tallies_at es s) b k
other_tallies-here [] s b k = let here : (s == s) ≡ true = grind (arith, nat_tests) in rw here refl
other_tallies-here (e ∷ es) s b k = elim (cases_Bool (s == e.0.0)) [
  | inl here ↦ elim (cases_Bool (is_same e.0.1 b)) [
    | inl same ↦ let swapped : is_same b e.0.1 ≡ true = same-swap b e.0.1 ∙ same in simp (here, same, swapped)
    | inr other ↦ let swapped : is_same b e.0.1 ≡ false = same-swap b e.0.1 ∙ other in simp (here, other, swapped) (ap (λ ts. tally e.0.1 e.1 ∷ ts) (other_tallies-here es s b k))
  ]
  | inr elsewhere ↦ simp elsewhere (other_tallies-here es s b k)
]

-- putting a vote at one slot leaves the other slots
pub other_tallies-others : (es : Votes) (s : ℕ) (b : Ballot) (voters : List Bool) (t : ℕ) → t ≢ s → other_tallies_at (insert_entry same_key es (s, b) voters) t ≡ other_tallies_at es t
other_tallies-others [] s b voters t other = let elsewhere : (t == s) ≡ false = grind (arith, nat_tests) in rw elsewhere refl
other_tallies-others (e ∷ es) s b voters t other = elim (cases_Bool (same_key (s, b) e.0)) [
  | inl is ↦ let elsewhere : (t == e.0.0) ≡ false = grind (arith, nat_tests) in simp (is, elsewhere)
  | inr not ↦ rw not (ap (λ (ts : List Tally). if t == e.0.0 then (tally e.0.1 e.1 ∷ ts) else ts) (other_tallies-others es s b voters t other))
]

-- the voters counted at the slot under the ballot, with node k counted too, are those put
pub other_tallies-voters : (es : Votes) (s : ℕ) (b : Ballot) (k j : ℕ) → voted_in (counted_in (other_tallies_at es s) b k) b j ≡ is_voter (with_voter (voters_among es s b) k) j
other_tallies-voters [] s b k j = let same : is_same b b ≡ true = grind (arith, nat_tests) in rw same refl
other_tallies-voters (e ∷ es) s b k j = elim (cases_Bool (s == e.0.0)) [
  | inl here ↦ elim (cases_Bool (is_same e.0.1 b)) [
    | inl same ↦ let swapped : is_same b e.0.1 ≡ true = same-swap b e.0.1 ∙ same in simp (here, same, swapped)
    | inr other ↦ let swapped : is_same b e.0.1 ≡ false = same-swap b e.0.1 ∙ other in simp (here, other, swapped) (other_tallies-voters es s b k j)
  ]
  | inr elsewhere ↦ simp elsewhere (other_tallies-voters es s b k j)
]

-- The tallies of all slots, the first of each before its later ones.

-- the tallies of slot j, which has index k
pub tallies-entry : (first j k : ℕ) (firsts : List (Option Tally)) (other_tallies : ℕ → List Tally) → j ≡ first + k
    → entry_at (tallies_from first firsts other_tallies) k ≡ option_map (λ t. t ∷ other_tallies j) (entry_at firsts k)
tallies-entry first j k [] other_tallies is = refl
tallies-entry first j zero (None ∷ ts) other_tallies is = refl
tallies-entry first j zero (Some t ∷ ts) other_tallies is = let same_slot : first ≡ j = omega arith in ap (λ s. Some (t ∷ other_tallies s)) same_slot
tallies-entry first j (suc k) (None ∷ ts) other_tallies is = tallies-entry (suc first) j k ts other_tallies (omega arith)
tallies-entry first j (suc k) (Some t ∷ ts) other_tallies is = tallies-entry (suc first) j k ts other_tallies (omega arith)

-- putting a first tally at a slot puts it before the later ones of that slot
pub tallies-put : (first j k : ℕ) (firsts : List (Option Tally)) (other_tallies : ℕ → List Tally) (t : Tally) → j ≡ first + k
    → tallies_from first (put_at firsts k t) other_tallies ≡ put_at (tallies_from first firsts other_tallies) k (t ∷ other_tallies j)
tallies-put first j zero [] other_tallies t is = let same_slot : first ≡ j = omega arith in ap (λ s. Some (t ∷ other_tallies s) ∷ []) same_slot
tallies-put first j (suc k) [] other_tallies t is = ap (λ ts. None ∷ ts) (tallies-put (suc first) j k [] other_tallies t (omega arith))
tallies-put first j zero (None ∷ ts) other_tallies t is = let same_slot : first ≡ j = omega arith in ap (λ s. Some (t ∷ other_tallies s) ∷ tallies_from (suc first) ts other_tallies) same_slot
tallies-put first j zero (Some u ∷ ts) other_tallies t is = let same_slot : first ≡ j = omega arith in ap (λ s. Some (t ∷ other_tallies s) ∷ tallies_from (suc first) ts other_tallies) same_slot
tallies-put first j (suc k) (None ∷ ts) other_tallies t is = ap (λ ts. None ∷ ts) (tallies-put (suc first) j k ts other_tallies t (omega arith))
tallies-put first j (suc k) (Some u ∷ ts) other_tallies t is = ap (λ ts. Some (u ∷ other_tallies first) ∷ ts) (tallies-put (suc first) j k ts other_tallies t (omega arith))

-- changing the later tallies of a slot below all of these changes nothing
tallies-stay : (first j : ℕ) (firsts : List (Option Tally)) (other_tallies more : ℕ → List Tally) → ((s : ℕ) → s ≢ j → more s ≡ other_tallies s) → j < first
    → tallies_from first firsts more ≡ tallies_from first firsts other_tallies
tallies-stay first j [] other_tallies more same low = refl
tallies-stay first j (None ∷ ts) other_tallies more same low = ap (λ ts. None ∷ ts) (tallies-stay (suc first) j ts other_tallies more same (omega arith))
tallies-stay first j (Some t ∷ ts) other_tallies more same low =
    let here = same first (λ e. omega arith) in let rest = tallies-stay (suc first) j ts other_tallies more same (omega arith) in λ i. Some (t ∷ here i) ∷ rest i

-- changing the later tallies of a slot that has a first tally puts them after it
pub tallies-other_tallies : (first j k : ℕ) (firsts : List (Option Tally)) (other_tallies more : ℕ → List Tally) (t : Tally) → j ≡ first + k → entry_at firsts k ≡ Some t → ((s : ℕ) → s ≢ j → more s ≡ other_tallies s)
    → tallies_from first firsts more ≡ put_at (tallies_from first firsts other_tallies) k (t ∷ more j)
tallies-other_tallies first j k [] other_tallies more t is here same = cc
tallies-other_tallies first j zero (None ∷ ts) other_tallies more t is here same = cc
tallies-other_tallies first j zero (Some u ∷ ts) other_tallies more t is here same =
    let first_is : u ≡ t = cc in let same_slot : first ≡ j = omega arith in let rest = tallies-stay (suc first) j ts other_tallies more same (omega arith) in λ i. Some (first_is i ∷ more (same_slot i)) ∷ rest i
tallies-other_tallies first j (suc k) (None ∷ ts) other_tallies more t is here same = ap (λ ts. None ∷ ts) (tallies-other_tallies (suc first) j k ts other_tallies more t (omega arith) here same)
tallies-other_tallies first j (suc k) (Some u ∷ ts) other_tallies more t is here same =
    let others = same first (λ e. omega arith) in let rest = tallies-other_tallies (suc first) j k ts other_tallies more t (omega arith) here same in λ i. Some (u ∷ others i) ∷ rest i

-- A vote is counted: its slot had no tally, or its first tally is of the ballot, or it is of
-- another ballot.

module _ (firsts : List (Option Tally)) (other_tallies : ℕ → List Tally) (s : ℕ) (b : Ballot) (k : ℕ) where
  abbrev all : List (Option (List Tally))
  all = tallies_from 0 firsts other_tallies

  -- if `us` is `ts`, the tallies of the slot, with the vote counted, putting `us` at the slot
  -- counts the vote
  counted_at : (ts us : List Tally) → tallies_at (entry_at all s) ≡ ts → us ≡ counted_in ts b k → put_at all s us ≡ counted all s b k
  counted_at ts us is counts = ap (λ (us : List Tally). put_at all s us) (counts ∙ ap (λ (ts : List Tally). counted_in ts b k) (sym is))

  -- the tallies of slot s are its first tally, if there is one, and the later ones
  at_slot : (o : Option Tally) → entry_at firsts s ≡ o → tallies_at (entry_at all s) ≡ tallies_at (option_map (λ t. t ∷ other_tallies s) o)
  at_slot o is = ap tallies_at (tallies-entry 0 s s firsts other_tallies (omega arith)) ∙ ap (λ (o : Option Tally). tallies_at (option_map (λ t. t ∷ other_tallies s) o)) is

  pub counted_new : (t : Tally) → entry_at firsts s ≡ None → other_tallies s ≡ [] → t.ballot ≡ b → t.voters ≡ with_voter no_voters k → tallies_from 0 (put_at firsts s t) other_tallies ≡ counted all s b k
  counted_new t none empty ballot voters =
      tallies-put 0 s s firsts other_tallies t (omega arith)
      ∙ counted_at [] (t ∷ other_tallies s) (at_slot None none) (λ i. tally (ballot i) (voters i) ∷ empty i)

  pub counted_first : (t u : Tally) → entry_at firsts s ≡ Some t → is_same t.ballot b ≡ true → u.ballot ≡ t.ballot → u.voters ≡ with_voter t.voters k
      → tallies_from 0 (put_at firsts s u) other_tallies ≡ counted all s b k
  counted_first t u here same ballot voters =
      tallies-put 0 s s firsts other_tallies u (omega arith)
      ∙ counted_at (t ∷ other_tallies s) (u ∷ other_tallies s) (at_slot (Some t) here) (rw same (λ i. tally (ballot i) (voters i) ∷ other_tallies s))

  pub counted_other : (t : Tally) (more : ℕ → List Tally) → entry_at firsts s ≡ Some t → is_same t.ballot b ≡ false → more s ≡ counted_in (other_tallies s) b k → ((r : ℕ) → r ≢ s → more r ≡ other_tallies r)
      → tallies_from 0 firsts more ≡ counted all s b k
  counted_other t more here other counts same =
      tallies-other_tallies 0 s s firsts other_tallies more t (omega arith) here same
      ∙ counted_at (t ∷ other_tallies s) (t ∷ more s) (at_slot (Some t) here) (rw other (ap (λ (ts : List Tally). t ∷ ts) counts))

  -- the voters at the slot under the ballot are those in its tallies with the vote counted
  voters_at : (ts : List Tally) → tallies_at (entry_at all s) ≡ ts → (j : ℕ) → has_voter (counted all s b k) s b j ≡ voted_in (counted_in ts b k) b j
  voters_at ts is j = ap (λ (o : Option (List Tally)). voted_in (tallies_at o) b j) (put_same all s (counted_in (tallies_at (entry_at all s)) b k)) ∙ ap (λ (ts : List Tally). voted_in (counted_in ts b k) b j) is

  pub voters_new : entry_at firsts s ≡ None → (j : ℕ) → has_voter (counted all s b k) s b j ≡ is_voter (with_voter no_voters k) j
  voters_new none j = let same : is_same b b ≡ true = grind (arith, nat_tests) in voters_at [] (at_slot None none) j ∙ rw same refl

  pub voters_first : (t : Tally) → entry_at firsts s ≡ Some t → is_same t.ballot b ≡ true → (j : ℕ) → has_voter (counted all s b k) s b j ≡ is_voter (with_voter t.voters k) j
  voters_first t here same j = voters_at (t ∷ other_tallies s) (at_slot (Some t) here) j ∙ simp same

  pub voters_other : (t : Tally) → entry_at firsts s ≡ Some t → is_same t.ballot b ≡ false → (j : ℕ) → has_voter (counted all s b k) s b j ≡ voted_in (counted_in (other_tallies s) b k) b j
  voters_other t here other j = voters_at (t ∷ other_tallies s) (at_slot (Some t) here) j ∙ simp other

-- The invariant of a learner for these two changes.

module _ {T : Type 0} (firsts : List (Option Tally)) (other_tallies : ℕ → List Tally) (learned : List (Option T)) (is : IsLearner firsts other_tallies learned) (s : ℕ) where
  -- a learner with another first tally
  pub learner_put : (t : Tally) → IsLearner (put_at firsts s t) other_tallies learned
  learner_put t = record {
    first = λ r none. is.first r (elim (put_either firsts s r t) [ inl here ↦ cc | inr same ↦ sym same ∙ none ]);
    within = is.within;
  }

  -- a learner with other later tallies at a slot that has a first one
  pub learner_other : (t : Tally) (more : ℕ → List Tally) → entry_at firsts s ≡ Some t → ((r : ℕ) → r ≢ s → more r ≡ other_tallies r) → IsLearner firsts more learned
  learner_other t more here same = record {
    first = λ r none. same r (λ e. none_some (sym none ∙ ap (entry_at firsts) e ∙ here)) ∙ is.first r none;
    within = is.within;
  } where
    none_some : None ≡ Some t → ⊥
    none_some e = cc
