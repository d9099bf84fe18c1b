-- Lists of positions of unproved `$p`, with one more position or with more statements.
use Rattle.unproved.proofs.Words.{Result, Ok, Err, IfOk, Vec, All, Global, All-nil, All-cons, ◌≡◌, ℕ, ◌+◌, ◌-◌, ◌<◌, ◌≤◌, List, [], ◌∷◌, ◌++◌, Option, Some, None, inl, inr, refl, subst, arith, cases_lt, Database, IsProvedIfProvable, IsFirstUnprovedIn, AreUnproved, IsPositionOf}

module _ (S : Database) where
  -- each `$p` after position `start` up to `end` is proved
  abbrev pub AreProved : ℕ → ℕ → Type 0
  AreProved start end = (m : ℕ) → start < m → m ≤ end → IsProvedIfProvable S m

  -- the list stays the same for further statements whose `$p` are all proved
  pub none-more : (start end later : ℕ) (positions : List ℕ) → end ≤ later → AreUnproved S start end positions → AreProved end later → AreUnproved S start later positions
  none-more start end later [] order are proved = λ at above below. elim (cases_lt end at) [ inl more ↦ proved at more below | inr less ↦ are at above less ]
  none-more start end later (at ∷ positions) order are proved =
      let low = are.1 in
      (are.0, omega (arith, low, order), are.2, are.3, none-more at end later positions order are.4 proved)

  -- the list with the position of the next unproved `$p` appended
  pub one-more : (start end at : ℕ) (positions : List ℕ) → start ≤ end → AreUnproved S start end positions → end < at → (IsProvedIfProvable S at → ⊥)
      → ((m : ℕ) → end < m → m < at → IsProvedIfProvable S m) → AreUnproved S start at (positions ++ at ∷ [])
  one-more start end at [] order are above wrong between = (
    omega (arith, order, above),
    omega arith,
    wrong,
    (λ m over below. elim (cases_lt end m) [ inl more ↦ between m more below | inr less ↦ are m over less ]),
    (λ m over below. absurd (omega (arith, over, below))),
  )
  one-more start end at (first ∷ positions) order are above wrong between =
      let low = are.1 in
      (are.0, omega (arith, low, above), are.2, are.3, one-more first end at positions low are.4 above wrong between)

  module _ (start end : ℕ) where
    -- if no `$p` of a range is unproved, each is proved
    pub least-none : IsFirstUnprovedIn S start end None → AreProved start end
    least-none least m above below =
        let e : start + (m - start - 1) + 1 ≡ m = omega (arith, above) in
        subst (IsProvedIfProvable S) e (least.before (m - start - 1) (omega (arith, above, below)) tt)

    -- the first `$p` of a range that is unproved
    module _ (i : ℕ) (least : IsFirstUnprovedIn S start end (Some i)) where
      pub least-within : start + i + 1 ≤ end
      least-within = let w = least.wrong.0 in omega (arith, w)

      pub least-between : (m : ℕ) → start < m → m < start + i + 1 → IsProvedIfProvable S m
      least-between m above below =
          let e : start + (m - start - 1) + 1 ≡ m = omega (arith, above) in
          let w = least.wrong.0 in
          subst (IsProvedIfProvable S) e (least.before (m - start - 1) (omega (arith, above, below, w)) (omega (arith, above, below)))

      pub least-more : (positions : List ℕ) → AreUnproved S 0 start positions → AreUnproved S 0 (start + i + 1) (positions ++ (start + i + 1) ∷ [])
      least-more positions are = one-more 0 start (start + i + 1) positions (omega arith) are (omega arith) least.wrong.1 least-between

  -- each position in the list is that of a statement
  pub all_within : (start end : ℕ) (positions : List ℕ) → AreUnproved S start end positions → All (IsPositionOf end) positions
  all_within start end [] are = All-nil (IsPositionOf end)
  all_within start end (at ∷ positions) are =
      let low = are.0 in
      All-cons (IsPositionOf end) at positions (omega (arith, low), are.1) (all_within at end positions are.4)

  pub found_within : {E : Type 0} (end : ℕ) (r : Result (Vec ℕ Global) E) → IfOk r (λ positions. AreUnproved S 0 end positions.items) → IfOk r (λ positions. All (IsPositionOf end) positions.items)
  found_within end (Ok positions) are = all_within 0 end positions.items are
  found_within end (Err error) are = are

  -- if the range after the first statements has no unproved `$p`, the list is complete up to its
  -- end
  pub all-found : (start end : ℕ) (positions : List ℕ) (found : Option ℕ) → ((i : ℕ) → found ≡ Some i → ⊥) → start ≤ end → AreUnproved S 0 start positions → IsFirstUnprovedIn S start end found → AreUnproved S 0 end positions
  all-found start end positions None other order are least = none-more 0 start end positions order are (least-none start end least)
  all-found start end positions (Some i) other order are least = absurd (other i refl)
