-- The places that a step takes for a `$e`, by the hypotheses of its assertion.
use Rattle.steps.proofs.Words.{◌≡◌, ℕ, zero, suc, ◌+◌, ◌<◌, Bool, true, false, if◌then◌else◌, List, [], ◌∷◌, ◌++◌, length, drop, get_or, Some, refl, sym, ◌∙◌, ap, subst, arith, append_assoc, length-map, slice_get-get_or, Name, Stmt, Database, stmt_at, before, is_assertion, Hypothesis, Float, Essential, AreBelow, IsStatementOf, AreNumberedHypotheses, HasAssertion, hypotheses, IsHypothesis, required-lengths, length-premises, not_both, Row, no_row, expr_in, Follows, from_hypothesis, from_assertion, AreRows, is_premise, taken_for_premises, mandatory_hypotheses, premise_places, taken_for_essentials, some-same}
use Rattle.mm_read.specs.declared.stmt.Stmt.TheVariants as stmt

-- the places taken for a `$e` are found by the kinds of the hypotheses
pub premises-by : (S : Database) (names : List Name) (ps typecodes : List ℕ) (hs : List Hypothesis) (taken : List ℕ) → AreNumberedHypotheses S names ps typecodes hs → taken_for_premises S ps taken ≡ taken_for_essentials hs taken
premises-by S names [] [] [] taken a = refl
premises-by S names [] [] (h ∷ hs) taken a = absurd a
premises-by S names [] (c ∷ typecodes) [] taken a = absurd a
premises-by S names [] (c ∷ typecodes) (h ∷ hs) taken a = absurd a
premises-by S names (p ∷ ps) [] [] taken a = absurd a
premises-by S names (p ∷ ps) [] (h ∷ hs) taken a = absurd a
premises-by S names (p ∷ ps) (c ∷ typecodes) [] taken a = absurd a
premises-by S names (p ∷ ps) (c ∷ typecodes) (h ∷ hs) [] a = refl
premises-by S names (p ∷ ps) (c ∷ typecodes) (h ∷ hs) (k ∷ taken) a =
    ap (λ o. if is_premise o then k ∷ taken_for_premises S ps taken else taken_for_premises S ps taken) a.0.stands
    ∙ by a.0.stmt h a.0.is (premises-by S names ps typecodes hs taken a.1)
  where
    by : (s : Stmt) (h : Hypothesis) → IsStatementOf names p s h → taken_for_premises S ps taken ≡ taken_for_essentials hs taken → (if is_premise (Some s) then k ∷ taken_for_premises S ps taken else taken_for_premises S ps taken) ≡ taken_for_essentials (h ∷ hs) (k ∷ taken)
    by (stmt.Float l c v) (Float x) is e = e
    by (stmt.Float l c v) (Essential q) is e = absurd is
    by (stmt.Ess l t) (Essential q) is e = ap (λ r. k ∷ r) e
    by (stmt.Ess l t) (Float x) is e = absurd is
    by stmt.Open h is e = absurd is
    by stmt.Close h is e = absurd is
    by (stmt.Const ws) h is e = absurd is
    by (stmt.Var ws) h is e = absurd is
    by (stmt.Disj ws) h is e = absurd is
    by (stmt.Axiom l t) h is e = absurd is
    by (stmt.Prove l t f) h is e = absurd is

-- ---- one hypothesis after another

-- the place taken for one hypothesis, if it is a `$e`
abbrev pub taken_for : Hypothesis → ℕ → List ℕ
taken_for (Float x) t = []
taken_for (Essential p) t = t ∷ []

pub taken-more : (hs : List Hypothesis) (ts : List ℕ) (k : ℕ) (d : Hypothesis) → length ts ≡ length hs → k < length hs → taken_for_essentials (drop k hs) (drop k ts) ≡ taken_for (get_or hs k d) (get_or ts k 0) ++ taken_for_essentials (drop (k + 1) hs) (drop (k + 1) ts)
taken-more [] ts k d same l = absurd (omega (arith, l))
taken-more (h ∷ hs) [] k d same l = absurd (omega (arith, same))
taken-more (Float x ∷ hs) (t ∷ ts) zero d same l = refl
taken-more (Essential p ∷ hs) (t ∷ ts) zero d same l = refl
taken-more (h ∷ hs) (t ∷ ts) (suc k) d same l =
    let e : suc k + 1 ≡ suc (k + 1) = omega arith in
    taken-more hs ts k d (omega (arith, same)) (omega (arith, l))
    ∙ ap (λ i. taken_for (get_or hs k d) (get_or ts k 0) ++ taken_for_essentials (drop i (h ∷ hs)) (drop i (t ∷ ts))) (sym e)

pub float-step : (hs : List Hypothesis) (ts : List ℕ) (k : ℕ) (d : Hypothesis) (x : ℕ) (list new whole : List ℕ) → length ts ≡ length hs → k < length hs → get_or hs k d ≡ Float x → new ≡ list
    → list ++ taken_for_essentials (drop k hs) (drop k ts) ≡ whole → new ++ taken_for_essentials (drop (k + 1) hs) (drop (k + 1) ts) ≡ whole
float-step hs ts k d x list new whole same l is e inv =
    ap (λ v. v ++ taken_for_essentials (drop (k + 1) hs) (drop (k + 1) ts)) e
    ∙ (ap (λ v. list ++ v) (sym (taken-more hs ts k d same l ∙ ap (λ h. taken_for h (get_or ts k 0) ++ taken_for_essentials (drop (k + 1) hs) (drop (k + 1) ts)) is)) ∙ inv)

pub essential-step : (hs : List Hypothesis) (ts : List ℕ) (k : ℕ) (d : Hypothesis) (p : ℕ) (list new whole : List ℕ) → length ts ≡ length hs → k < length hs → get_or hs k d ≡ Essential p → new ≡ list ++ get_or ts k 0 ∷ []
    → list ++ taken_for_essentials (drop k hs) (drop k ts) ≡ whole → new ++ taken_for_essentials (drop (k + 1) hs) (drop (k + 1) ts) ≡ whole
essential-step hs ts k d p list new whole same l is e inv =
    let rest = taken_for_essentials (drop (k + 1) hs) (drop (k + 1) ts) in
    ap (λ v. v ++ rest) e
    ∙ (append_assoc list (get_or ts k 0 ∷ []) rest
    ∙ (ap (λ v. list ++ v) (sym (taken-more hs ts k d same l ∙ ap (λ h. taken_for h (get_or ts k 0) ++ rest) is)) ∙ inv))

pub premises-none : (S : Database) (ps : List ℕ) → taken_for_premises S ps [] ≡ []
premises-none S [] = refl
premises-none S (p ∷ ps) = refl

pub premises-low : (S : Database) (n : ℕ) (ps taken : List ℕ) → AreBelow n taken → AreBelow n (taken_for_premises S ps taken)
premises-low S n [] taken b = tt
premises-low S n (p ∷ ps) [] b = tt
premises-low S n (p ∷ ps) (k ∷ taken) b = by (premises-low S n ps taken b.1) (is_premise (stmt_at S p))
  where
    by : AreBelow n (taken_for_premises S ps taken) → (c : Bool) → AreBelow n (if c then k ∷ taken_for_premises S ps taken else taken_for_premises S ps taken)
    by rest true = (b.0, rest)
    by rest false = rest

module _ (S : Database) (at : ℕ) (names : List Name) (rows : List Row) (row : Row) (follows : Follows S at names rows row) (position : ℕ) (is : position ≡ row.step.position) where
  -- a step that cites an assertion takes as many steps as this has mandatory hypotheses
  takes-all : (s : Stmt) → HasAssertion S position s → Follows S at names rows row → length row.step.taken ≡ length (hypotheses (before S position) s)
  takes-all s has (from_hypothesis t active none e) = absurd (not_both t active.kind (ap is_assertion (some-same active.stands (ap (stmt_at S) (sym is) ∙ has.0)) ∙ has.1))
  takes-all s has (from_assertion t σ fits takes e) =
      sym (length-map row.step.taken (expr_in names rows))
      ∙ (ap length takes ∙ (length-premises S row.step.position t σ
      ∙ (ap (λ u. length (hypotheses (before S row.step.position) u)) (some-same fits.stands (ap (stmt_at S) (sym is) ∙ has.0))
      ∙ ap (λ p. length (hypotheses (before S p) s)) (sym is))))

  pub asks-all : (s : Stmt) (typecodes : List ℕ) (hs : List Hypothesis) → HasAssertion S position s → AreNumberedHypotheses S names (hypotheses (before S position) s) typecodes hs → length row.step.taken ≡ length hs
  asks-all s typecodes hs has numbered_hypotheses = takes-all s has follows ∙ sym (required-lengths S names (hypotheses (before S position) s) typecodes hs numbered_hypotheses).1

  pub essential-by : (s : Stmt) (typecodes : List ℕ) (hs : List Hypothesis) → HasAssertion S position s → AreNumberedHypotheses S names (hypotheses (before S position) s) typecodes hs → premise_places S row.step ≡ taken_for_essentials hs row.step.taken
  essential-by s typecodes hs has numbered_hypotheses =
      ap (λ p. taken_for_premises S (mandatory_hypotheses S p (stmt_at S p)) row.step.taken) (sym is)
      ∙ (ap (λ o. taken_for_premises S (mandatory_hypotheses S position o) row.step.taken) has.0 ∙ premises-by S names (hypotheses (before S position) s) typecodes hs row.step.taken numbered_hypotheses)

  -- a step that cites a hypothesis takes no step for a `$e`
  takes-none : (s : Stmt) → IsHypothesis S at position s → Follows S at names rows row → [] ≡ premise_places S row.step
  takes-none s active (from_hypothesis t active' none e) =
      sym (ap (taken_for_premises S (mandatory_hypotheses S row.step.position (stmt_at S row.step.position))) none ∙ premises-none S (mandatory_hypotheses S row.step.position (stmt_at S row.step.position)))
  takes-none s active (from_assertion t σ fits takes e) = absurd (not_both s active.kind (ap is_assertion (some-same active.stands (ap (stmt_at S) is ∙ fits.stands)) ∙ fits.assertion))

  pub none-essential : (s : Stmt) → IsHypothesis S at position s → [] ≡ premise_places S row.step
  none-essential s active = takes-none s active follows

  -- a step cites an active hypothesis or an earlier assertion
  something : ((s : Stmt) → stmt_at S position ≡ Some s → (IsHypothesis S at position s → ⊥) × (position < at → is_assertion s ≡ true → ⊥)) → Follows S at names rows row → ⊥
  something nothing (from_hypothesis s active none e) = (nothing s (ap (stmt_at S) is ∙ active.stands)).0 (subst (λ p. IsHypothesis S at p s) (sym is) active)
  something nothing (from_assertion s σ fits takes e) = (nothing s (ap (stmt_at S) is ∙ fits.stands)).1 (subst (λ p. p < at) (sym is) fits.earlier) fits.assertion

  pub never-nothing : ((s : Stmt) → stmt_at S position ≡ Some s → (IsHypothesis S at position s → ⊥) × (position < at → is_assertion s ≡ true → ⊥)) → ⊥
  never-nothing nothing = something nothing follows

pub follows-at : (S : Database) (at : ℕ) (names : List Name) (rows : List Row) (k : ℕ) → AreRows S at names rows → k < length rows → Follows S at names rows (get_or rows k no_row)
follows-at S at names rows k are l = (are k (get_or rows k no_row) (slice_get-get_or rows k no_row l)).follows

pub premises-below : (S : Database) (at : ℕ) (names : List Name) (rows : List Row) (k : ℕ) → AreRows S at names rows → k < length rows → AreBelow k (premise_places S (get_or rows k no_row).step)
premises-below S at names rows k are l =
    let step = (get_or rows k no_row).step in
    premises-low S k (mandatory_hypotheses S step.position (stmt_at S step.position)) step.taken ((are k (get_or rows k no_row) (slice_get-get_or rows k no_row l)).earlier)
