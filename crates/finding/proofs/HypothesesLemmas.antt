-- The `$e` that match a pattern, and the hypotheses of an assertion.
use Rattle.finding.proofs.LineWords.{◌≡◌, ℕ, zero, suc, ◌+◌, ◌-◌, ◌<◌, ◌≤◌, Bool, true, false, ◌&&◌, nat_le, nat_lt, List, [], ◌∷◌, ◌++◌, length, take, drop, map, filter, Option, Some, None, slice_get, get_or, refl, ap, sym, ◌∙◌, subst, arith, inl, inr, length-append, lt-ltb, take-take, take-append-drop, ◌↔◌, ◌⊎◌, IsFalse, IsTrue, OnOk, Result, option_map, option_and_then, and_from, and_parts, both_ways, cases_lt, ltb-true, get_or-take, get_or_append_left, get_or_at, same_Some, slice_get-get_or, on_ok_weaker, Stmt, Ess, Database, active_from, bare, bares, before, is_active, is_essential, stays_open, stmt_at, stmt_at-bares, is_hypothesis_kind, hypotheses, is_hypothesis, In, IsActiveAt, active-members, members-active, active-stays, get-take, cut-here, drop-front, length-cut, stays_open-front, Part, AreMatchingEssentials, AreRecorded, IsTrimmedLength, IsActiveHypothesis, SearchQuery, WithHypotheses, HasPattern, essential_expr, essential_at, SomeEssentialHas}

-- ---- one statement

-- a `$e` is the statement at a position
record IsThere (S : Database) (i : ℕ) : Type 0 where
  pub stmt : Stmt
  pub stands : stmt_at (bares S) i ≡ Some stmt
  pub essential : is_essential stmt ≡ true

there : (p : List Part) (S : Database) (i : ℕ) → HasPattern p (essential_at S i) → IsThere S i
there p S i has = by (stmt_at S i) refl has
  where
    of : (s : Stmt) → stmt_at S i ≡ Some s → HasPattern p (essential_expr s) → IsThere S i
    of (Ess label expr) stands h = record { stmt = Ess label expr; stands = stmt_at-bares S i ∙ ap (option_map bare) stands; essential = refl }
    of s stands h = absurd h

    by : (o : Option Stmt) → stmt_at S i ≡ o → HasPattern p (option_and_then essential_expr o) → IsThere S i
    by None stands h = absurd h
    by (Some s) stands h = of s stands h

kind-of : (s : Stmt) → is_essential s ≡ true → is_hypothesis_kind s ≡ true
kind-of (Ess label expr) h = refl
kind-of s h = cc

hypothesis-of : (S : Database) (s t : Stmt) → is_essential t ≡ true → is_hypothesis S s t ≡ true
hypothesis-of S s (Ess label expr) h = refl
hypothesis-of S s t h = cc

-- ---- active statements

active-below : (F : Database) (i at : ℕ) → is_active F i at ≡ true → i < at
active-below F i at h =
    let first = and_parts (nat_le 1 i && nat_lt i at) (stays_open 0 (take (at - 1 - i) (drop i F))) h in
    ltb-true i at (and_parts (nat_le 1 i) (nat_lt i at) first.0).1

stays-shorter : (X : Database) (a b : ℕ) → a ≤ b → stays_open 0 (take b X) ≡ true → stays_open 0 (take a X) ≡ true
stays-shorter X a b le h = ap (stays_open 0) (sym (take-take a b X le)) ∙ stays_open-front 0 (take a (take b X)) (drop a (take b X)) (ap (stays_open 0) (take-append-drop a (take b X)) ∙ h)

-- a statement that is active before a later statement is active before the one in between
active-earlier : (F : Database) (i at : ℕ) → i < at → is_active F i (at + 1) ≡ true → is_active F i at ≡ true
active-earlier F i at lt h =
    let both = and_parts (nat_le 1 i && nat_lt i (at + 1)) (stays_open 0 (take (at + 1 - 1 - i) (drop i F))) h in
    let first = and_parts (nat_le 1 i) (nat_lt i (at + 1)) both.0 in
    let stays : stays_open 0 (take (at - 1 - i) (drop i F)) ≡ true = stays-shorter (drop i F) (at - 1 - i) (at + 1 - 1 - i) (omega arith) both.1 in
    and_from (nat_le 1 i && nat_lt i at) (stays_open 0 (take (at - 1 - i) (drop i F))) (and_from (nat_le 1 i) (nat_lt i at) first.0 (lt-ltb i at lt)) stays

-- an active `$e` is a hypothesis of any assertion at that position
listed : (F : Database) (at i : ℕ) (s t : Stmt) → stmt_at F i ≡ Some t → is_essential t ≡ true → is_active F i at ≡ true → In i (hypotheses (before F at) s)
listed F at zero s t stands kind active = cc
listed F at (suc k) s t stands kind active =
    let T : Database = before F at in
    let early : suc k < at = active-below F (suc k) at active in
    let here : slice_get T k ≡ Some t = get-take k (at - 1) F (omega (arith, early)) ∙ stands in
    let stays : stays_open 0 (drop (suc k) T) ≡ true = sym (active-stays F (suc k) at (omega arith) early) ∙ active in
    let found : In (1 + length (take k T)) (map (λ x. x.0) (filter (λ x. is_hypothesis T s x.1) (active_from 1 (take k T ++ t ∷ drop (suc k) T)))) =
    members-active (is_hypothesis T s) 1 (take k T) t (drop (suc k) T) stays (hypothesis-of T s t kind) in
    let place : 1 + length (take k T) ≡ suc k = omega (arith, length-cut T k t here) in
    subst (λ n. In n (hypotheses T s)) place (subst (λ D. In (1 + length (take k T)) (map (λ x. x.0) (filter (λ x. is_hypothesis T s x.1) (active_from 1 D)))) (sym (cut-here T k t here)) found)

-- the hypotheses of an assertion are active
active-listed : (F : Database) (at i : ℕ) (s : Stmt) → In i (hypotheses (before F at) s) → (is_active F i at ≡ true) × (i < at)
active-listed F at i s in_list =
    let T : Database = before F at in
    let a : IsActiveAt T (is_hypothesis T s) i = active-members T (is_hypothesis T s) i [] T 1 refl refl in_list in
    let few : length T ≤ at - 1 = length-before F (at - 1) in
    let parts : length T ≡ length a.front + suc (length a.rest) = ap length a.whole ∙ length-append a.front (a.stmt ∷ a.rest) in
    let place = a.at in
    let early : i < at = omega (arith, few, parts, place) in
    (active-stays F i at (omega (arith, place)) early ∙ (ap (λ n. stays_open 0 (drop n T)) a.at ∙ (ap (λ D. stays_open 0 (drop (suc (length a.front)) D)) a.whole ∙ (ap (stays_open 0) (drop-front a.front a.stmt a.rest) ∙ a.stays))), early)
  where
    length-before : (D : Database) (n : ℕ) → length (take n D) ≤ n
    length-before [] zero = omega arith
    length-before [] (suc n) = omega arith
    length-before (d ∷ D) zero = omega arith
    length-before (d ∷ D) (suc n) = let m = length-before D n in omega (arith, m)

-- ---- the `$e` that match a pattern

module _ (p : List Part) (S : Database) where
  some-from : (i : ℕ) (positions : List ℕ) → In i positions → HasPattern p (essential_at S i) → SomeEssentialHas p S positions
  some-from i [] never has = absurd never
  some-from i (q ∷ positions) (inl e) has = inl (subst (λ n. HasPattern p (essential_at S n)) e has)
  some-from i (q ∷ positions) (inr more) has = inr (some-from i positions more has)

  some-to : (positions : List ℕ) → SomeEssentialHas p S positions → (i : ℕ) × In i positions × HasPattern p (essential_at S i)
  some-to [] never = absurd never
  some-to (q ∷ positions) (inl has) = (q, inl refl, has)
  some-to (q ∷ positions) (inr more) = let r = some-to positions more in (r.0, inr r.1, r.2)

  active-hypothesis : (at i : ℕ) → HasPattern p (essential_at S i) → is_active (bares S) i at ≡ true → IsActiveHypothesis (bares S) at i
  active-hypothesis at i has active = let t = there p S i has in (t.stmt, record { stands = t.stands; kind = kind-of t.stmt t.essential; active = active })

  -- there are none before the first statement
  pub kept-none : AreMatchingEssentials p S 0 []
  kept-none = record { each = λ k lt. absurd (omega (arith, lt)); all = λ i le has active. absurd (none i le has) }
    where
      none : (i : ℕ) → i ≤ 0 → HasPattern p (essential_at S i) → ⊥
      none zero le has = has
      none (suc i) le has = omega (arith, le)

  module _ (n at : ℕ) (next : n + 1 ≡ at) where
    earlier : (i : ℕ) → i < at → is_active (bares S) i (at + 1) ≡ true → is_active (bares S) i (n + 1) ≡ true
    earlier i lt active = subst (λ m. is_active (bares S) i m ≡ true) (sym next) (active-earlier (bares S) i at lt active)

    -- a statement that matches is added to the list
    pub kept-with : (s : Stmt) (list new : List ℕ) → stmt_at S at ≡ Some s → HasPattern p (essential_expr s) → new ≡ list ++ at ∷ [] → AreMatchingEssentials p S n list → AreMatchingEssentials p S at new
    kept-with s list new stands has pushed kept = subst (AreMatchingEssentials p S at) (sym pushed) (record { each = each; all = all })
      where
        here : HasPattern p (essential_at S at)
        here = subst (λ o. HasPattern p (option_and_then essential_expr o)) (sym stands) has

        count : length (list ++ at ∷ []) ≡ length list + 1
        count = length-append list (at ∷ [])

        each : (k : ℕ) → k < length (list ++ at ∷ []) → (get_or (list ++ at ∷ []) k 0 ≤ at) × HasPattern p (essential_at S (get_or (list ++ at ∷ []) k 0))
        each k lt = by (cases_lt k (length list))
          where
            by : (k < length list) ⊎ (length list ≤ k) → (get_or (list ++ at ∷ []) k 0 ≤ at) × HasPattern p (essential_at S (get_or (list ++ at ∷ []) k 0))
            by (inl before) =
                let e = kept.each k before in
                let e0 = e.0 in
                subst (λ i. (i ≤ at) × HasPattern p (essential_at S i)) (sym (get_or_append_left list (at ∷ []) 0 k before)) (omega (arith, e0, next), e.1)
            by (inr behind) = subst (λ i. (i ≤ at) × HasPattern p (essential_at S i)) (sym (get_or_at list at [] 0 k (omega (arith, lt, behind, count)))) (omega arith, here)

        all : (i : ℕ) → i ≤ at → HasPattern p (essential_at S i) → is_active (bares S) i (at + 1) ≡ true → (k : ℕ) × (k < length (list ++ at ∷ [])) × (get_or (list ++ at ∷ []) k 0 ≡ i)
        all i le h active = by (cases_lt i at)
          where
            by : (i < at) ⊎ (at ≤ i) → (k : ℕ) × (k < length (list ++ at ∷ [])) × (get_or (list ++ at ∷ []) k 0 ≡ i)
            by (inl lt) =
                let f = kept.all i (omega (arith, lt, next)) h (earlier i lt active) in
                let f1 = f.1 in
                (f.0, omega (arith, f1, count), get_or_append_left list (at ∷ []) 0 f.0 f.1 ∙ f.2)
            by (inr ge) = (length list, omega (arith, count), get_or_at list at [] 0 (length list) refl ∙ (let e : at ≡ i = omega (arith, le, ge) in e))

    -- a statement that does not match leaves the list as it is
    pub kept-without : (s : Stmt) (list : List ℕ) → stmt_at S at ≡ Some s → (HasPattern p (essential_expr s) → ⊥) → AreMatchingEssentials p S n list → AreMatchingEssentials p S at list
    kept-without s list stands lacks kept = record { each = each; all = all }
      where
        each : (k : ℕ) → k < length list → (get_or list k 0 ≤ at) × HasPattern p (essential_at S (get_or list k 0))
        each k lt = let e = kept.each k lt in let e0 = e.0 in (omega (arith, e0, next), e.1)

        all : (i : ℕ) → i ≤ at → HasPattern p (essential_at S i) → is_active (bares S) i (at + 1) ≡ true → (k : ℕ) × (k < length list) × (get_or list k 0 ≡ i)
        all i le h active = by (cases_lt i at)
          where
            by : (i < at) ⊎ (at ≤ i) → (k : ℕ) × (k < length list) × (get_or list k 0 ≡ i)
            by (inl lt) = kept.all i (omega (arith, lt, next)) h (earlier i lt active)
            by (inr ge) =
                let e : i ≡ at = omega (arith, le, ge) in
                absurd (lacks (subst (λ o. HasPattern p (option_and_then essential_expr o)) stands (subst (λ m. HasPattern p (essential_at S m)) e h)))

    -- either of the two, by the answer of the test
    pub kept-one : {T E : Type 0} (s : Stmt) (list new : List ℕ) (has : Bool) (r : Result T E) → stmt_at S at ≡ Some s → IsTrue has ↔ HasPattern p (essential_expr s)
        → (IsTrue has → OnOk r (new ≡ list ++ at ∷ [])) → (IsFalse has → OnOk r (new ≡ list)) → AreMatchingEssentials p S n list → OnOk r (AreMatchingEssentials p S at new)
    kept-one s list new true r stands is pushed same kept = on_ok_weaker r (λ e. kept-with s list new stands (is.0 refl) e kept) (pushed refl)
    kept-one s list new false r stands is pushed same kept = on_ok_weaker r (λ e. subst (AreMatchingEssentials p S at) (sym e) (kept-without s list stands (λ h. both_ways false refl (is.1 h)) kept)) (same refl)

    -- only `$e` that are no longer active are removed from the end of the list
    module _ (old new : List ℕ) (left : IsTrimmedLength (bares S) at old (length new)) (front : new ≡ take (length new) old) where
      same : (k : ℕ) → k < length new → get_or new k 0 ≡ get_or old k 0
      same k lt = ap (λ l. get_or l k 0) front ∙ get_or-take (length new) old k 0 lt

      pub kept-left : AreMatchingEssentials p S n old → AreMatchingEssentials p S n new
      kept-left kept = record { each = each; all = all }
        where
          each : (k : ℕ) → k < length new → (get_or new k 0 ≤ n) × HasPattern p (essential_at S (get_or new k 0))
          each k lt = let w = left.within in subst (λ i. (i ≤ n) × HasPattern p (essential_at S i)) (sym (same k lt)) (kept.each k (omega (arith, lt, w)))

          all : (i : ℕ) → i ≤ n → HasPattern p (essential_at S i) → is_active (bares S) i (n + 1) ≡ true → (k : ℕ) × (k < length new) × (get_or new k 0 ≡ i)
          all i le has active = by (kept.all i le has active)
            where
              by : (k : ℕ) × (k < length old) × (get_or old k 0 ≡ i) → (k : ℕ) × (k < length new) × (get_or new k 0 ≡ i)
              by f = at_place (cases_lt f.0 (length new))
                where
                  at_place : (f.0 < length new) ⊎ (length new ≤ f.0) → (k : ℕ) × (k < length new) × (get_or new k 0 ≡ i)
                  at_place (inl lt) = (f.0, lt, same f.0 lt ∙ f.2)
                  at_place (inr past) = absurd (left.gone f.0 past f.1 (subst (IsActiveHypothesis (bares S) at) (sym f.2) (active-hypothesis at i has (subst (λ m. is_active (bares S) i m ≡ true) next active))))

      -- the list is not empty if and only if a `$e` among the hypotheses matches the pattern
      pub some-left : (s : Stmt) (is : Bool) → AreMatchingEssentials p S n old → IsTrue is ↔ (0 < length new) → IsTrue is ↔ SomeEssentialHas p S (hypotheses (before (bares S) at) s)
      some-left s is kept h = (λ yes. forward (h.0 yes), λ some. h.1 (back some))
        where
          forward : 0 < length new → SomeEssentialHas p S (hypotheses (before (bares S) at) s)
          forward some =
              let k : ℕ = length new - 1 in
              let w = left.within in
              let e = kept.each k (omega (arith, some, w)) in
              let t = there p S (get_or old k 0) e.1 in
              let hyp = left.last k (omega (arith, some)) in
              some-from (get_or old k 0) (hypotheses (before (bares S) at) s) (listed (bares S) at (get_or old k 0) s t.stmt t.stands t.essential hyp.1.active) e.1

          back : SomeEssentialHas p S (hypotheses (before (bares S) at) s) → 0 < length new
          back some =
              let r = some-to (hypotheses (before (bares S) at) s) some in
              let a = active-listed (bares S) at r.0 s r.1 in
              let a1 = a.1 in
              let f = (kept-left kept).all r.0 (omega (arith, a1, next)) r.2 (subst (λ m. is_active (bares S) r.0 m ≡ true) (sym next) a.0) in
              let f1 = f.1 in
              omega (arith, f1)

-- the list is empty before the first statement
pub recorded_none : (query : SearchQuery) (S : Database) → AreRecorded query S 0 []
recorded_none (WithHypotheses p) S = kept-none p S
recorded_none query S = tt

-- ---- the length after removal

other-default : (list : List ℕ) (k d : ℕ) → k < length list → get_or list k 0 ≡ get_or list k d
other-default list k d lt = same_Some (get_or list k 0) (get_or list k d) (sym (slice_get-get_or list k 0 lt) ∙ slice_get-get_or list k d lt)

module _ (F : Database) (at : ℕ) (list : List ℕ) (left : ℕ) (within : left ≤ length list) (gone : (k : ℕ) → left ≤ k → k < length list → IsActiveHypothesis F at (get_or list k 0) → ⊥) where
  pub left-none : left ≤ 0 → IsTrimmedLength F at list 0
  left-none none = record {
    within = omega arith;
    gone = λ k low lt. gone k (omega (arith, none)) lt;
    last = λ k e. absurd (omega (arith, e));
  }

  pub gone-more : (d : ℕ) → 0 < left → (IsActiveHypothesis F at (get_or list (left - 1) d) → ⊥) → (k : ℕ) → left - 1 ≤ k → k < length list → IsActiveHypothesis F at (get_or list k 0) → ⊥
  gone-more d some none k low lt hyp = by (cases_lt k left)
    where
      by : (k < left) ⊎ (left ≤ k) → ⊥
      by (inr past) = gone k past lt hyp
      by (inl before) =
          let place : left - 1 ≡ k = omega (arith, low, before, some) in
          none (subst (IsActiveHypothesis F at) (other-default list k d lt ∙ sym (ap (λ m. get_or list m d) place)) hyp)
