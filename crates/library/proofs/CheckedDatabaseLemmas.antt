-- A text is added whole or not at all; good statements with a judged text are good.
use Rattle.library.proofs.Words.{◌≡◌, ◌⊎◌, ℕ, zero, suc, ◌+◌, ◌-◌, ◌<◌, ◌≤◌, ◌&&◌, Bool, true, false, if◌then◌else◌, List, [], ◌∷◌, ◌++◌, length, take, drop, get_or, Option, Some, None, refl, list_all, sym, ◌∙◌, ap, subst, arith, inl, inr, Result, Ok, Err, IfOk, length-append, true_from_ne_false, true≢false, map-append, take-append-drop, length-take-le, length-map, take_all, take_rest, take-append_seam, drop-append_seam, Stmt, Database, AreShaped, is_shaped, bare, bares, is_provable, is_unfinished, proof_of, stmt_at, first_broken, stands-within, Cause, Rule, Proof, Unfinished, IsProvable, IsProvedIfProvable, Good, IsProved, IsFirstUnproved, IsJudged, IsPastAt, IsChecked, list_all-append, IsAdded, IsAddedAfter, Tables}
use Rattle.mm_read.specs.declared.stmt.Stmt.TheVariants.{Open}
use Rattle.verify.specs.Metered.{Metered, is_past, with_work}
use Rattle.verify_pool.specs.declared.outcome.Outcome.{Outcome}
use Rattle.verify_pool.specs.declared.outcome.Outcome.TheVariants.{AllRight, Wrong}
use Rattle.verify_pool.specs.declared.outcome.Outcome.TheVariants as pool
use Rattle.library.specs.Added.{AreKnown, HasBegun, IsFoundBy, IsProofCause, IsStop, added_work, proof_cause}
use Rattle.library.specs.Causes.{first_leaving}
use Rattle.library.specs.Judging.{or_leaving}
use Rattle.library.specs.ProofJobs.{AreProvedBefore, IsProofStop, proofs_work}
use Rattle.library.specs.Work.{Counts, counts_from, past_limit, proof_counts, statement_counts, statement_work, text_work, theorem_work, to_proof, to_statement, total}
use Rattle.library.specs.declared.adding.AddOutcome.{AddOutcome}
use Rattle.library.specs.declared.verdict.Cause.TheVariants.{LeavesHypotheses, TooCostly}
use Rattle.library.proofs.FrontLemmas.{stmt_at-after}
use Rattle.library.proofs.GoodLemmas.{provable-where, provable-after, proved-later}
use Rattle.library.proofs.JoinedRulesLemmas.{legal-more, first_broken-bares, bare-bare}
use Rattle.library.proofs.ProofWorkLemmas.{total-proofs}
use Rattle.library.proofs.ProvingLemmas.{not-there}
use Rattle.library.proofs.UnprovedLemmas.{stop-from}
use Rattle.library.proofs.WorkLemmas.{counts-more, metered-none, metered-past, text_work-parts, total-append, total-more}

-- ---- lists

pub bares-bares : (S : Database) → bares (bares S) ≡ bares S
bares-bares [] = refl
bares-bares (s ∷ S) = ap (λ t. t ∷ bares (bares S)) (bare-bare s) ∙ ap (λ T. bare s ∷ T) (bares-bares S)

pub shaped-append : (S T : Database) → AreShaped S → AreShaped T → AreShaped (S ++ T)
shaped-append S T p q = list_all-append is_shaped S T ∙ (ap (λ b. b && list_all is_shaped T) p ∙ q)

-- ---- a text judged after the first statements

module _ (L T : Database) where
  -- a `$p` of T has a position after L when T follows L
  stands-after : (n : ℕ) (s : Stmt) → IsProvable T n s → (length L < length L + n) × (length L + n ≤ length (L ++ T))
  stands-after n s p =
      let w = stands-within T n s p.stands in
      let l = length-append L T in
      (omega (arith, w.0), omega (arith, w.1, l))

  all-after : ((at : ℕ) → length L < at → at ≤ length (L ++ T) → IsProvedIfProvable (L ++ T) at) → (n : ℕ) (s : Stmt) → IsProvable T n s → IsProved (L ++ T) (length L + n)
  all-after h n s p = let w = stands-after n s p in h (length L + n) w.0 w.1 s (provable-after L T n s p)

  before-after : (n : ℕ) → AreProvedBefore (L ++ T) (length L) (length L + n) → (m : ℕ) (r : Stmt) → m < n → IsProvable T m r → IsProved (L ++ T) (length L + m)
  before-after n h m r below p = let w = stands-after m r p in h (length L + m) w.0 (omega (arith, below)) r (provable-after L T m r p)

  first-after : (n : ℕ) (s : Stmt) → 1 ≤ n → ¬ IsProvedIfProvable (L ++ T) (length L + n) → AreProvedBefore (L ++ T) (length L) (length L + n) → stmt_at (L ++ T) (length L + n) ≡ Some s
      → IsFirstUnproved L T n s
  first-after zero s some unproved before stands = absurd (omega (arith, some))
  first-after (suc n) s some unproved before stands = record {
    here = record {
      stands = sym (stmt_at-after L T n) ∙ stands;
      provable = true_from_ne_false (is_provable s) (λ e. unproved (λ r p. absurd (not-there (L ++ T) (length L + suc n) s stands (λ f. true≢false (sym f ∙ e)) r p)));
    };
    unproved = λ p. unproved (λ r q. p);
    earlier = before-after (suc n) before;
  }

-- ---- added whole, or undone

good-more : (L T : Database) → Good L → first_broken 1 L T ≡ None → ((n : ℕ) (s : Stmt) → IsProvable T n s → IsProved (L ++ T) (length L + n)) → Good (L ++ T)
good-more L T good legal proved = record { legal = legal-more L T good.legal legal; proved = by }
  where
    by : (at : ℕ) (s : Stmt) → IsProvable (L ++ T) at s → IsProved (L ++ T) at
    by at s p = elim (provable-where L T at s p) [
      | inl q ↦ proved-later L T at (good.proved at s q.1)
      | inr q ↦ subst (IsProved (L ++ T)) (sym q.1) (proved q.0 s q.2)
    ]

-- the statements that were added, as the rest of a list
module _ (S : Database) (front : ℕ) {tables : Tables} (checked : IsChecked (take front S) tables) (within : front ≤ length S) where
  all-bares : (old new : Database) → old ≡ bares (take front S) → new ≡ old ++ bares (drop front S) → new ≡ bares S
  all-bares old new before after =
      after ∙ (ap (λ U. U ++ bares (drop front S)) before ∙ (sym (map-append bare (take front S) (drop front S)) ∙ ap bares (take-append-drop front S)))

  pub added-after : {new : Tables} {m m' : Metered} (a : AddOutcome) → IsAdded tables new m m' (take (length S - front) (drop front S)) a → IsAddedAfter S front new m m' a
  added-after a added =
      let h = rw (take_rest S front) at added in
      let alone : length (take front S) ≡ length tables.frames.statements = sym (ap length checked.frames_are ∙ length-map (take front S) bare) in
      let start : length tables.frames.statements ≡ front = sym alone ∙ length-take-le front S within in record {
        stopped = stopped _ _ a h.stopped;
        rules_are = λ none. all-bares _ _ checked.rules_are (h.rules_are none);
        frames_are = λ none. all-bares _ _ checked.frames_are (h.frames_are none);
        closed = h.closed;
        begins = rw checked.frames_are at h.begins;
        marked = h.marked ∙ checked.marked_is;
        before = h.before ∙ start;
        known = rw (take-append-drop front S, length-take-le front S within) at (h.known (take front S) alone);
      }
    where
      stopped : (m m' : Metered) (a : AddOutcome)
          → IfOk a.stopped (IsStop (first_broken 1 tables.rules.statements (drop front S)) (length (drop front S)) (added_work tables.rules.statements (drop front S)) m m')
          → IfOk a.stopped (IsStop (first_broken 1 (take front S) (drop front S)) (length (drop front S)) (added_work (bares (take front S)) (drop front S)) m m')
      stopped m m' a h =
          subst (λ o. IfOk a.stopped (IsStop o (length (drop front S)) (added_work (bares (take front S)) (drop front S)) m m'))
          (first_broken-bares 1 tables.rules.statements (take front S) (drop front S) (ap bares checked.rules_are ∙ bares-bares (take front S)))
          (subst (λ U. IfOk a.stopped (IsStop (first_broken 1 tables.rules.statements (drop front S)) (length (drop front S)) (added_work U (drop front S)) m m')) checked.rules_are h)

-- ---- the whole judgement

-- counts with the last of which a meter is past its limit, of the first statements
past-of : (work : Database → Stmt → ℕ) (S T : Database) (m : Metered) (first : Counts) (n : ℕ) → m.count ≡ total first → n ≤ length T
    → IsPastAt m (λ k. total (counts_from work 1 S (take k T))) n → past_limit m.limit (first ++ counts_from work 1 S (take n T)) ≡ Some n
past-of work S T m first n e within past =
    subst (λ j. past_limit m.limit (first ++ counts_from work 1 S (take j T)) ≡ Some j) next
    (subst (λ cs. past_limit m.limit (first ++ cs) ≡ Some (n - 1 + 1)) (sym (counts-more work S T (n - 1) Open less))
    (metered-past m first (counts_from work 1 S (take (n - 1) T)) (n - 1 + 1) one e past.within
    (subst (λ w. is_past (with_work m w) ≡ true) (ap (λ j. total (counts_from work 1 S (take j T))) (sym next) ∙ total-more work S T (n - 1) Open less) past.past)))
  where
    some : 1 ≤ n
    some = past.some

    next : n - 1 + 1 ≡ n
    next = omega (arith, some)

    less : n - 1 < length T
    less = omega (arith, some, within)

    one : ℕ
    one = work (S ++ bares (take (n - 1) T)) (get_or T (n - 1) Open)

module _ (L T : Database) (bytes : List ℕ) (m : Metered) (counted : m.count ≡ length bytes) where
  abbrev first : Counts
  first = (0, length bytes) ∷ []

  first-total : m.count ≡ total first
  first-total = omega (arith, counted)

  -- refused for its statements
  module _ (m' : Metered) where
    abbrev Stops : Option Cause → Type 0
    Stops found = IsStop (first_broken 1 L T) (length T) (added_work (bares L) T) m m' found

    by-statements : (cause : Cause) → Stops (Some cause) → IsJudged m.limit L bytes T (Some cause)
    by-statements (Rule n rule) h = (h.0, metered-none m first (statement_counts L (take (n - 1) T)) first-total h.1)
    by-statements (TooCostly n) h = record {
      stage = to_statement n;
      reached = h.0;
      past = past-of statement_work (bares L) T m first n first-total h.1 h.2;
    }
    by-statements cause h = absurd h

    by-leaving : (n : ℕ) → Stops None → first_leaving m.limit T ≡ Some n → IsJudged m.limit L bytes T (Some (LeavesHypotheses n))
    by-leaving n h leaves = (
      (h.0, leaves),
      metered-none m first (statement_counts L (take (length T) T)) first-total (subst (λ k. is_past k ≡ false) h.1 h.2),
    )

  -- judged by its proofs, when all statements are added
  module _ (good : Good L) (legal : first_broken 1 L T ≡ None) (leaves : first_leaving m.limit T ≡ None) where
    abbrev added : Metered
    added = with_work m (added_work (bares L) T (length T))

    abbrev entered : Counts
    entered = first ++ statement_counts L T

    entered-total : added.count ≡ total entered
    entered-total =
        let all = ap (λ U. total (statement_counts L U)) (take_all (length T) T (omega arith)) in
        let sum = total-append first (statement_counts L T) in
        omega (arith, counted, all, sum)

    -- what proofs count by position is what they count in the text
    same-work : (n : ℕ) → n ≤ length T → proofs_work (L ++ T) (length L) n ≡ total (proof_counts L (take n T))
    same-work n within = sym (total-proofs L T n within)

    module _ (m'' : Metered) where
      abbrev Ends : Outcome → Type 0
      Ends outcome = IsProofStop (L ++ T) (length L) added m'' outcome

      count-all : length (L ++ T) - length L ≡ length T
      count-all = let l = length-append L T in omega (arith, l)

      all-metered : Ends AllRight → m'' ≡ with_work added (total (proof_counts L (take (length T) T)))
      all-metered h = h.1 ∙ ap (with_work added) (ap (proofs_work (L ++ T) (length L)) count-all ∙ same-work (length T) (omega arith))

      pub by-all : Ends AllRight → IsJudged m.limit L bytes T None
      by-all h = (
        leaves,
        good-more L T good legal (all-after L T h.0),
        metered-none added entered (proof_counts L (take (length T) T)) entered-total (subst (λ k. is_past k ≡ false) (all-metered h) h.2),
      )

      pub work-of-all : Ends AllRight → m''.count ≡ text_work L bytes T
      work-of-all h =
          let e = ap (λ k. k.count) (all-metered h) in
          let statements = ap (λ U. total (statement_counts L U)) (take_all (length T) T (omega arith)) in
          let proofs = ap (λ U. total (proof_counts L U)) (take_all (length T) T (omega arith)) in
          let parts = text_work-parts L T bytes in
          omega (arith, e, counted, statements, proofs, parts)

      by-proof : (n : ℕ) (s : Stmt) → Ends (Wrong (length L + n)) → stmt_at (L ++ T) (length L + n) ≡ Some s → IsJudged m.limit L bytes T (Some (proof_cause n s))
      by-proof n s h stands = by (is_unfinished (proof_of s)) refl
        where
          some : 1 ≤ n
          some = let a = h.0 in omega (arith, a)

          within : n ≤ length T
          within = let a = h.1 in let l = length-append L T in omega (arith, a, l)

          place : length L + n - length L ≡ n
          place = omega arith

          unproved : IsFirstUnproved L T n s
          unproved = first-after L T n s some h.2 h.3 stands

          none : past_limit m.limit (entered ++ proof_counts L (take n T)) ≡ None
          none = metered-none added entered (proof_counts L (take n T)) entered-total
              (subst (λ w. is_past (with_work added w) ≡ false) (ap (proofs_work (L ++ T) (length L)) place ∙ same-work n within) h.4)

          by : (t : Bool) → is_unfinished (proof_of s) ≡ t → IsJudged m.limit L bytes T (Some (if t then Unfinished n else Proof n))
          by true e = ((leaves, (s, legal, unproved, e)), none)
          by false e = ((leaves, (s, legal, unproved, e)), none)

      by-cost : (n : ℕ) → Ends (pool.TooCostly (length L + n)) → IsJudged m.limit L bytes T (Some (TooCostly n))
      by-cost n h =
          let l = length-append L T in let a = h.1 in let low = h.0 in
          let within : n ≤ length T = omega (arith, a, l) in
          let place : length L + n - length L ≡ n = omega arith in
          let past : IsPastAt added (proofs_work (L ++ T) (length L)) n = subst (IsPastAt added (proofs_work (L ++ T) (length L))) place h.3 in
          let before : n - 1 ≤ length T = omega (arith, within) in record {
            stage = to_proof n;
            reached = (legal, leaves, before-after L T n h.2);
            past = past-of theorem_work (bares L) T added entered n entered-total within (record {
              some = past.some;
              within = subst (λ w. is_past (with_work added w) ≡ false) (same-work (n - 1) before) past.within;
              past = subst (λ w. is_past (with_work added w) ≡ true) (same-work n within) past.past;
            });
          }

-- the same for a list of which the first statements are good
module _ (S : Database) (start : ℕ) (begins : start ≤ length S) (good : Good (take start S)) (m m' m'' : Metered) (bytes : List ℕ) (counted : m.count ≡ length bytes) (found : Option Cause) where
  abbrev L : Database
  L = take start S

  abbrev T : Database
  T = drop start S

  abbrev Judged : Type 0
  Judged = IsJudged m.limit L bytes T found × (found ≡ None → m''.count ≡ text_work L bytes T)

  abbrev HasStopped : Option Cause → Type 0
  HasStopped stopped = IsStop (first_broken 1 L T) (length T) (added_work (bares L) T) m m' stopped

  refused : (cause : Cause) → found ≡ Some cause → IsJudged m.limit L bytes T (Some cause) → Judged
  refused cause is judged = (subst (IsJudged m.limit L bytes T) (sym is) judged, λ none. absurd (let e : Some cause ≡ None = sym is ∙ none in cc))

  count : length L ≡ start
  count = length-take-le start S begins

  module _ (stopped : HasStopped None) (leaves : first_leaving m.limit T ≡ None) where
    abbrev entered_all : Metered
    entered_all = with_work m (added_work (bares L) T (length T))

    cut : (outcome : Outcome) → IsProofStop S start m' m'' outcome → IsProofStop (L ++ T) (length L) entered_all m'' outcome
    cut outcome h =
        subst (λ k. IsProofStop (L ++ T) (length L) k m'' outcome) stopped.1
        (subst (λ U. IsProofStop U (length L) m' m'' outcome) (sym (take-append-drop start S))
        (subst (λ n. IsProofStop S n m' m'' outcome) (sym count) h))

    by-proofs : (outcome : Outcome) → IsProofStop S start m' m'' outcome → IsProofCause S start outcome found → Judged
    by-proofs AllRight h none = (
      subst (IsJudged m.limit L bytes T) (sym none) (by-all L T bytes m counted good stopped.0 leaves m'' (cut AllRight h)),
      λ e. work-of-all L T bytes m counted good stopped.0 leaves m'' (cut AllRight h),
    )
    by-proofs (Wrong at) h cause =
        let low = h.0 in
        let place : at ≡ length L + (at - length L) = omega (arith, low, count) in
        let number : at - length L ≡ at - start = ap (λ n. at - n) count in
        let stands : stmt_at (L ++ T) at ≡ Some cause.0 = ap (λ U. stmt_at U at) (take-append-drop start S) ∙ cause.1 in
        refused (proof_cause (at - start) cause.0) cause.2
        (subst (λ n. IsJudged m.limit L bytes T (Some (proof_cause n cause.0))) number
        (by-proof L T bytes m counted good stopped.0 leaves m'' (at - length L) cause.0
        (subst (λ n. IsProofStop (L ++ T) (length L) entered_all m'' (Wrong n)) place (cut (Wrong at) h))
        (subst (λ n. stmt_at (L ++ T) n ≡ Some cause.0) place stands)))
    by-proofs (pool.TooCostly at) h is =
        let low = h.0 in
        let place : at ≡ length L + (at - length L) = omega (arith, low, count) in
        let number : at - length L ≡ at - start = ap (λ n. at - n) count in
        refused (TooCostly (at - start)) is
        (subst (λ n. IsJudged m.limit L bytes T (Some (TooCostly n))) number
        (by-cost L T bytes m counted good stopped.0 leaves m'' (at - length L)
        (subst (λ n. IsProofStop (L ++ T) (length L) entered_all m'' (pool.TooCostly n)) place (cut (pool.TooCostly at) h))))

  -- what is found of a text after its statements were added is its judgement
  judged-by : {E : Type 0} (r : Result (Option Cause) E) (leaves : Option ℕ) → IfOk r HasStopped → leaves ≡ first_leaving m.limit T
      → ((cause : Cause) × (or_leaving r leaves ≡ Ok (Some cause)) × (found ≡ Some cause))
      ⊎ ((or_leaving r leaves ≡ Ok None) × ((outcome : Outcome) × IsProofStop S start m' m'' outcome × IsProofCause S start outcome found)) → Judged
  judged-by (Err e) leaves stopped left (inl p) = absurd (let f = p.1 in cc)
  judged-by (Err e) leaves stopped left (inr p) = absurd (let f = p.0 in cc)
  judged-by (Ok (Some cause)) leaves stopped left (inl p) =
      let same : cause ≡ p.0 = (let f = p.1 in cc) in
      refused cause (p.2 ∙ ap (λ c. Some c) (sym same)) (by-statements L T bytes m counted m' cause stopped)
  judged-by (Ok (Some cause)) leaves stopped left (inr p) = absurd (let f = p.0 in cc)
  judged-by (Ok None) None stopped left (inl p) = absurd (let f = p.1 in cc)
  judged-by (Ok None) None stopped left (inr p) = by-proofs stopped (sym left) p.1.0 p.1.1 p.1.2
  judged-by (Ok None) (Some n) stopped left (inl p) =
      let same : LeavesHypotheses n ≡ p.0 = (let f = p.1 in cc) in
      refused (LeavesHypotheses n) (p.2 ∙ ap (λ c. Some c) (sym same)) (by-leaving L T bytes m counted m' n stopped (sym left))
  judged-by (Ok None) (Some n) stopped left (inr p) = absurd (let f = p.0 in cc)

  pub judged : {tables : Tables} (a : AddOutcome) (leaves : Option ℕ) → IsAddedAfter S start tables m m' a → leaves ≡ first_leaving m.limit T
      → IsFoundBy S (record a { stopped = or_leaving a.stopped leaves }) m' m'' found → Judged
  judged a leaves added left h =
      judged-by a.stopped leaves added.stopped left
      (elim h [
        | inl p ↦ inl p
        | inr p ↦ inr (
          p.0,
          (p.1.0, subst (λ n. IsProofStop S n m' m'' p.1.0) added.before p.1.1, subst (λ n. IsProofCause S n p.1.0 found) added.before p.1.2),
        )
      ])

-- the same for a list that good statements and those of a text are together
pub extended : (L T S : Database) {old tables : Tables} (m m' m'' : Metered) (bytes : List ℕ) (found : Option Cause) (a : AddOutcome) (leaves : Option ℕ) → IsChecked L old → S ≡ L ++ T → m.count ≡ length bytes
    → IsAddedAfter S (length old.frames.statements) tables m m' a → leaves ≡ first_leaving m.limit T → IsFoundBy S (record a { stopped = or_leaving a.stopped leaves }) m' m'' found
    → IsJudged m.limit L bytes T found × (found ≡ None → m''.count ≡ text_work L bytes T)
extended L T S {old} {tables} m m' m'' bytes found a leaves checked whole counted added left h =
    let start = length old.frames.statements in
    let count : start ≡ length L = ap length checked.frames_are ∙ length-map L bare in
    let front : take start S ≡ L = ap (λ U. take start U) whole ∙ (ap (λ n. take n (L ++ T)) count ∙ take-append_seam L T) in
    let back : drop start S ≡ T = ap (λ U. drop start U) whole ∙ (ap (λ n. drop n (L ++ T)) count ∙ drop-append_seam L T) in
    let sum = length-append L T in
    let all = ap length whole in
    subst (λ V. IsJudged m.limit L bytes V found × (found ≡ None → m''.count ≡ text_work L bytes V)) back
    (subst (λ U. IsJudged m.limit U bytes (drop start S) found × (found ≡ None → m''.count ≡ text_work U bytes (drop start S))) front
    (judged S start (omega (arith, count, sum, all)) (subst Good (sym front) checked.good) m m' m'' bytes counted found a leaves added
    (left ∙ ap (first_leaving m.limit) (sym back)) h))

or_leaving-none : {E : Type 0} (r : Result (Option Cause) E) (leaves : Option ℕ) → or_leaving r leaves ≡ Ok None → r ≡ Ok None
or_leaving-none (Ok None) leaves h = refl
or_leaving-none (Ok (Some cause)) leaves h = h
or_leaving-none (Err e) leaves h = h

-- if nothing is found, all statements were added
pub none-stopped : (S : Database) (m m' : Metered) (a : AddOutcome) (leaves : Option ℕ) → IsFoundBy S (record a { stopped = or_leaving a.stopped leaves }) m m' None → a.stopped ≡ Ok None
none-stopped S m m' a leaves (inl p) = absurd (let e = p.2 in cc)
none-stopped S m m' a leaves (inr p) = or_leaving-none a.stopped leaves p.0

-- the proofs are judged after those that are known, or after those before the new ones
pub begun-stop : (S : Database) (a : AddOutcome) (m m' m'' : Metered) (from : ℕ) (outcome : Outcome) → AreKnown S a.before a → HasBegun a m m' from → IsProofStop S from m' m'' outcome
    → IsProofStop S a.before m m'' outcome
begun-stop S a m m' m'' from outcome known (inl p) h = subst (λ k. IsProofStop S a.before k m'' outcome) p.1 (subst (λ n. IsProofStop S n m' m'' outcome) p.0 h)
begun-stop S a m m' m'' from outcome known (inr p) h =
    stop-from S a.before a.proved_to known.proved m m' (p.1 ∙ ap (with_work m) known.work) m'' outcome (subst (λ n. IsProofStop S n m' m'' outcome) p.0 h)
