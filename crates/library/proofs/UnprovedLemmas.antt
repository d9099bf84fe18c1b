-- The positions of the `$p` after the first statements, and the first of these that is not proved.
use Rattle.library.proofs.Words.{◌≡◌, ◌⊎◌, ℕ, zero, suc, ◌+◌, ◌-◌, ◌<◌, ◌≤◌, false, List, [], ◌∷◌, ◌++◌, length, get_or, Some, slice_get, slice_get-get_or, get_or_default, ◌∙◌, ap, sym, subst, arith, inl, inr, refl, cases_eq, cases_order, length-append, length-map, map-append, Stmt, Database, bare, bares, before, stmt_at, IsProvable, AreProofs, AreProvablesAfter, IsProvedIfProvable, AreProvedBetween, true, AreShaped, is_shaped, and_parts, list_all, take, drop, cases_lt, take-append-drop, IsProved, AreProvedTo, list_all-append, IsRightProof}
use Rattle.verify.specs.Metered.{Metered, is_past, with_work}
use Rattle.verify_pool.specs.FirstStop.{IsFirstStop}
use Rattle.verify_pool.specs.declared.outcome.Outcome.{Outcome}
use Rattle.verify_pool.specs.declared.outcome.Outcome.TheVariants.{AllRight, Wrong}
use Rattle.verify_pool.specs.declared.outcome.Outcome.TheVariants as pool
use Rattle.library.specs.Added.{AreKnown, IsProvedAhead}
use Rattle.library.specs.ProofJobs.{AreProvedBefore, IsProofStop, ProofsAt, proof_work_at, proofs_work, theorem_work_of, work_of_proof}
use Rattle.library.specs.declared.adding.AddOutcome.{AddOutcome}
use Rattle.library.proofs.FrontLemmas.{before-front, stands_index, stmt_at-front}
use Rattle.library.proofs.GoodLemmas.{provable-where, proved-later}
use Rattle.library.proofs.ProofWorkLemmas.{proofs_work-between, work_to-all, work_to-before, work_to-through}
use Rattle.library.proofs.WorkLemmas.{with_work-add}

-- ---- one more statement

-- there is no `$p` after position `front` up to position `end`
abbrev pub NoneBetween : Database → ℕ → ℕ → Type 0
NoneBetween S front end = (at : ℕ) (s : Stmt) → front < at → at ≤ end → IsProvable S at s → ⊥

none-more : (S : Database) (front end : ℕ) → NoneBetween S front end → ((s : Stmt) → IsProvable S (end + 1) s → ⊥) → NoneBetween S front (end + 1)
none-more S front end none here at s above below p =
    elim (cases_eq at (end + 1)) [ inl e ↦ here s (subst (λ n. IsProvable S n s) e p) | inr apart ↦ none at s above (omega (arith, below, apart)) p ]

pub after-pass : (S : Database) (front end : ℕ) (ps : List ℕ) → AreProvablesAfter S front end ps → ((s : Stmt) → IsProvable S (end + 1) s → ⊥) → AreProvablesAfter S front (end + 1) ps
after-pass S front end [] are here = none-more S front end are here
after-pass S front end (at ∷ ps) are here = let l = are.1 in (are.0, omega (arith, l), are.2, after-pass S at end ps are.3 here)

pub after-more : (S : Database) (front end : ℕ) (ps : List ℕ) → front ≤ end → AreProvablesAfter S front end ps → AreProvablesAfter S front (end + 1) (ps ++ (end + 1) ∷ [])
after-more S front end [] h none = (
  omega (arith, h),
  omega arith,
  (λ at s above below p. none at s above (omega (arith, below)) p),
  (λ at s above below p. absurd (omega (arith, above, below))),
)
after-more S front end (at ∷ ps) h are = let l = are.1 in (are.0, omega (arith, l), are.2, after-more S at end ps l are.3)

-- ---- all positions

pub all-after : (S : Database) (front end : ℕ) (ps : List ℕ) → end ≤ length S → length S ≤ end → AreProvablesAfter S front end ps → AreProvablesAfter S front (length S) ps
all-after S front end ps within over are = subst (λ n. AreProvablesAfter S front n ps) (omega (arith, within, over)) are

placed-after : (S : Database) (front end : ℕ) (ps : List ℕ) → AreProvablesAfter S front end ps → (k at : ℕ) → slice_get ps k ≡ Some at → (front < at) × (at ≤ end)
placed-after S front end [] are k at e = absurd (let f = e in cc)
placed-after S front end (first ∷ ps) are zero at e = let is : first ≡ at = cc in let low = are.0 in let high = are.1 in (omega (arith, is, low), omega (arith, is, high))
placed-after S front end (first ∷ ps) are (suc k) at e =
    let rest = placed-after S first end ps are.3 k at e in
    (omega (arith, are.0, rest.0), rest.1)

pub are-proofs : (S F : Database) (front : ℕ) (ps : List ℕ) → F ≡ Rattle.scope.specs.Active.bares S → AreProvablesAfter S front (length S) ps → AreProofs S F ps
are-proofs S F front ps same are = record {
  same = same;
  placed = λ k at e. let w = placed-after S front (length S) ps are k at e in let low = w.0 in (omega (arith, low), w.1);
}

-- the position at an index of the list, and its statement
module _ (S F : Database) (ps : List ℕ) (are : AreProofs S F ps) (k at : ℕ) (s : Stmt) (less : k < length ps) (is : at ≡ get_or ps k at) (here : s ≡ get_or S (at - 1) s) where
  pub proof-stands : stmt_at S at ≡ Some s
  proof-stands = let p = are.placed k at (slice_get-get_or ps k at less ∙ ap Some (sym is)) in stands_index S at s p.0 p.1 here

  -- a property of that position holds of the element at the index
  pub proof-at : (P : ℕ → Type 0) → P at → P (get_or ps k 0)
  proof-at P = subst P (is ∙ get_or_default ps k at 0 less)

module _ (S : Database) where
  -- the first `count` of them are proved
  abbrev pub FrontProved : ℕ → List ℕ → Type 0
  FrontProved count ps = (k : ℕ) → k < count → IsProvedIfProvable S (get_or ps k 0)

  -- the position is after `front`, and the `$p` between them are proved
  abbrev pub IsNext : ℕ → ℕ → ℕ → Type 0
  IsNext front end at = (front < at) × (at ≤ end) × AreProvedBefore S front at

  all-proved : (front end : ℕ) (ps : List ℕ) → AreProvablesAfter S front end ps → FrontProved (length ps) ps → (at : ℕ) → front < at → at ≤ end → IsProvedIfProvable S at
  all-proved front end [] are right at above below = λ s p. absurd (are at s above below p)
  all-proved front end (first ∷ ps) are right at above below =
      elim (cases_order at first) [
        | inl e ↦ subst (IsProvedIfProvable S) (sym e) (right 0 (omega arith))
        | inr other ↦ elim other [
          | inl less ↦ (λ s p. absurd (are.2 at s above less p))
          | inr more ↦ all-proved first end ps are.3 (λ k less. right (suc k) (omega (arith, less))) at more below
        ]
      ]

  next-at : (front end : ℕ) (ps : List ℕ) (i : ℕ) → AreProvablesAfter S front end ps → FrontProved i ps → i < length ps → IsNext front end (get_or ps i 0)
  next-at front end [] i are right less = absurd (omega (arith, less))
  next-at front end (first ∷ ps) zero are right less = (are.0, are.1, (λ m above below s p. absurd (are.2 m s above below p)))
  next-at front end (first ∷ ps) (suc i) are right less =
      let r = next-at first end ps i are.3 (λ k below. right (suc k) (omega (arith, below))) (omega (arith, less)) in
      let above = r.0 in (
        omega (arith, are.0, above),
        r.1,
        (λ m over below. elim (cases_order m first) [
          | inl q ↦ subst (IsProvedIfProvable S) (sym q) (right 0 (omega arith))
          | inr other ↦ elim other [
            | inl before ↦ (λ s p. absurd (are.2 m s over before p))
            | inr more ↦ r.2 m more below
          ]
        ]),
      )

  -- the outcome of the jobs, by position
  module _ (front : ℕ) (ps : List ℕ) (low : front ≤ length S) (are : AreProvablesAfter S front (length S) ps) (m m' : Metered) where
    abbrev jobs : ProofsAt
    jobs = record { statements = S; positions = ps }

    abbrev Stops : Outcome → Type 0
    Stops outcome = IsFirstStop (IsRightProof jobs) (work_of_proof jobs) (length ps) m m' outcome

    pub all-right : Stops AllRight → IsProofStop S front m m' AllRight
    all-right h = (
      all-proved front (length S) ps are h.0.each,
      h.1 ∙ ap (with_work m) (work_to-all S (length S) front ps low are),
      subst (λ n. is_past n ≡ false) (sym h.1) h.0.within,
    )

    pub wrong-at : (i : ℕ) → Stops (Wrong i) → IsProofStop S front m m' (Wrong (get_or ps i 0))
    wrong-at i h =
        let next = next-at front (length S) ps i are h.0.before.each h.0.stands in
        (next.0, next.1, h.0.wrong, next.2, subst (λ n. is_past (with_work m n) ≡ false) (work_to-through S (length S) front ps i are h.0.stands) h.0.within)

    pub costly-at : (i : ℕ) → Stops (pool.TooCostly i) → IsProofStop S front m m' (pool.TooCostly (get_or ps i 0))
    costly-at i h =
        let next = next-at front (length S) ps i are h.before.each h.stands in
        let above = next.0 in (
          next.0,
          next.1,
          next.2,
          record {
            some = omega (arith, above);
            within = subst (λ n. is_past (with_work m n) ≡ false) (work_to-before S (length S) front ps i are h.stands) h.before.within;
            past = subst (λ n. is_past (with_work m n) ≡ true) (work_to-through S (length S) front ps i are h.stands) h.past;
          },
        )

    pub stop-within : (i : ℕ) (outcome : Outcome) → Stops outcome → (outcome ≡ Wrong i) ⊎ (outcome ≡ pool.TooCostly i) → i < length ps
    stop-within i outcome h is = elim is as (λ _. i < length ps) [ inl e ↦ (subst Stops e h).0.stands | inr e ↦ (subst Stops e h).stands ]

-- ---- first statements that were judged before

-- if each `$p` is right, each is proved up to the last statement
pub all-to : (S : Database) (m m' : Metered) → m.count ≡ 0 → IsProofStop S 0 m m' AllRight → IsProvedAhead S (length S) m'.count
all-to S m m' none h = record {
  within = omega arith;
  proved = proved;
  counted = (let same : length S - 0 ≡ length S = omega arith in let e = ap (λ n. n.count) h.1 in let f = ap (proofs_work S 0) same in omega (arith, none, e, f));
}
  where
    proved : AreProvedTo S (length S)
    proved zero below = λ s p. absurd (let e = p.stands in cc)
    proved (suc n) below = h.0 (suc n) (omega arith) below

-- a `$p` that is proved among the first statements stays proved when others are appended
pub to-later : (S : Database) (count end : ℕ) → end ≤ length (take count S) → AreProvedTo (take count S) end → AreProvedTo S end
to-later S count end within are at below s p =
    elim (provable-where (take count S) (drop count S) at s (subst (λ U. IsProvable U at s) (sym (take-append-drop count S)) p)) [
      | inl q ↦ subst (λ U. IsProved U at) (take-append-drop count S) (proved-later (take count S) (drop count S) at (are at below s q.1))
      | inr q ↦ none q.0 q.1 q.2
    ]
  where
    none : (n : ℕ) → at ≡ length (take count S) + n → IsProvable (drop count S) n s → IsProved S at
    none zero e q = absurd (let f = q.stands in cc)
    none (suc n) e q = absurd (omega (arith, e, below, within))

-- what the proofs of the first statements count does not depend on later ones
proof_work_at-front : (S T : Database) (at : ℕ) → at ≤ length S → proof_work_at (S ++ T) at ≡ proof_work_at S at
proof_work_at-front S T at within =
    let count = length-map S bare in
    ap (theorem_work_of (before (bares (S ++ T)) at)) (stmt_at-front S T at within)
    ∙ ap (λ U. theorem_work_of U (stmt_at S at))
    (ap (λ V. before V at) (map-append bare S T) ∙ before-front (bares S) (bares T) at (omega (arith, within, count)))

proofs_work-front : (S T : Database) (k : ℕ) → k ≤ length S → proofs_work (S ++ T) 0 k ≡ proofs_work S 0 k
proofs_work-front S T zero within = refl
proofs_work-front S T (suc k) within =
    let place : 0 + suc k ≤ length S = omega (arith, within) in
    let rest = proofs_work-front S T k (omega (arith, within)) in
    let one = proof_work_at-front S T (0 + suc k) place in
    omega (arith, rest, one)

pub ahead-later : (S : Database) (count end work : ℕ) → IsProvedAhead (take count S) end work → IsProvedAhead S end work
ahead-later S count end work h =
    let fewer = length-take-least count S in record {
      within = omega (arith, h.within, fewer);
      proved = to-later S count end h.within h.proved;
      counted = h.counted ∙ (sym (proofs_work-front (take count S) (drop count S) end h.within) ∙ ap (λ U. proofs_work U 0 end) (take-append-drop count S));
    }
  where
    length-take-least : (n : ℕ) (l : Database) → length (take n l) ≤ length l
    length-take-least n l = let parts = ap length (take-append-drop n l) in let sum = length-append (take n l) (drop n l) in omega (arith, parts, sum)

-- proofs that are judged after those that are known are judged after all before them
module _ (S : Database) (start from : ℕ) (known : AreProvedBetween S start from) (m m' : Metered) (began : m' ≡ with_work m (proofs_work S start (from - start))) where
  whole : (end : ℕ) → from ≤ end → with_work m' (proofs_work S from (end - from)) ≡ with_work m (proofs_work S start (end - start))
  whole end h =
      ap (λ k. with_work k (proofs_work S from (end - from))) began
      ∙ with_work-add m (proofs_work S start (from - start)) (proofs_work S from (end - from)) (proofs_work S start (end - start)) (sym (proofs_work-between S start from end known.low h))

  before-too : (at : ℕ) → AreProvedBefore S from at → AreProvedBefore S start at
  before-too at before k above below = elim (cases_lt from k) [ inl more ↦ before k more below | inr less ↦ known.proved k above less ]

  pub stop-from : (m'' : Metered) (outcome : Outcome) → IsProofStop S from m' m'' outcome → IsProofStop S start m m'' outcome
  stop-from m'' AllRight h = (
    (λ at above within. elim (cases_lt from at) [ inl more ↦ h.0 at more within | inr less ↦ known.proved at above less ]),
    h.1 ∙ whole (length S) known.within,
    h.2,
  )
  stop-from m'' (Wrong at) h =
      let low = known.low in let a = h.0 in
      let within : from ≤ at = omega (arith, a) in
      (omega (arith, low, a), h.1, h.2, before-too at h.3, subst (λ k. is_past k ≡ false) (whole at within) h.4)
  stop-from m'' (pool.TooCostly at) h =
      let low = known.low in let a = h.0 in
      let before : from ≤ at - 1 = omega (arith, a) in
      let within : from ≤ at = omega (arith, a) in
      let one : at - 1 - from ≡ at - from - 1 = omega (arith, a) in
      let other : at - 1 - start ≡ at - start - 1 = omega (arith, a, low) in (
        omega (arith, low, a),
        h.1,
        before-too at h.2,
        record {
          some = omega (arith, low, a);
          within = subst (λ n. is_past (with_work m (proofs_work S start n)) ≡ false) other
              (subst (λ k. is_past k ≡ false) (whole (at - 1) before) (subst (λ n. is_past (with_work m' (proofs_work S from n)) ≡ false) (sym one) h.3.within));
          past = subst (λ k. is_past k ≡ true) (whole at within) h.3.past;
        },
      )

-- the facts on a text before which there are no statements
pub known-alone : (T : Database) (a : AddOutcome) → IsProvedAhead T a.proved_to a.proofs_work → (L : Database) → length L ≡ 0 → AreKnown (L ++ T) (length L) a
known-alone T a h [] alone = record {
  proved = record { low = omega arith; within = h.within; proved = λ at above below. h.proved at below };
  work = (let same : a.proved_to - 0 ≡ a.proved_to = omega arith in h.counted ∙ ap (proofs_work T 0) (sym same));
}
known-alone T a h (s ∷ L) alone = absurd (omega (arith, alone))

-- the first of well-shaped statements are well shaped
pub shaped-front : (S : Database) (count : ℕ) → AreShaped S → AreShaped (take count S)
shaped-front S count h =
    let both : (list_all is_shaped (take count S) ≡ true) × (list_all is_shaped (drop count S) ≡ true) = and_parts _ _ (sym (list_all-append is_shaped (take count S) (drop count S)) ∙ (ap (list_all is_shaped) (take-append-drop count S) ∙ h)) in
    both.0
