-- From the answer of the verifier to whether a `$p` is proved; the labels with which its tokens
-- write items.
use Rattle.library.proofs.Words.{◌≡◌, ℕ, ◌⊎◌, ◌↔◌, refl, true, false, IsTrue, List, map, Option, Some, None, Result, Ok, Err, IfOk, MatchOption, sym, ◌∙◌, ap, subst, inl, inr, both_ways, Name, Stmt, Database, bare, bares, before, proof_of, stmt_at, is_provable, Item, Writes, WritesFinishedCompressed, WritesFinishedNormal, IsMalformed, is_compressed, is_unfinished, label_or_empty, mandatory_labels, Proves, IsProvable, IsRight, IsAnswerIfAny, provable-bare, IsProvedIfProvable, HasItems, one_answer, malformed-none, ◌+◌, ◌<◌, [], ◌∷◌, ◌++◌, length, take, get_or, option_map, slice_get, slice_get-get_or, unwrap_or, map_more, Float, Ess, Prove, is_assertion, stmt_at-bares, hypotheses, is_hypothesis_kind, label_of-bare, CodeFault, Malformed, arith, Answer, Proved, Wrong}
use Rattle.proof_code.specs.declared.fault.CodeFault.TheVariants.{Unfinished}
use Rattle.verify.specs.Counted.{HasCountedAnswer, HasCountedProof}
use Rattle.verify.specs.Metered.{Metered, metered, with_work}
use Rattle.verify.specs.Work.{proof_work}
use Rattle.library.specs.ProofJobs.{proof_work_at, theorem_work_of}
use Rattle.library.specs.Work.{theorem_work}
use Rattle.verify.specs.declared.answer.Answer.TheVariants.{TooCostly}
use Rattle.library.proofs.FrontLemmas.{hypotheses-bare, IsHypothesisAt, kind-bare, hypotheses-at, hypothesis-there}

-- ---- items

-- the items that the tokens write, or a proof that they write none
abbrev pub Found : List Name → List Name → Option (List Item) → Type 0
Found tokens mandatory found = MatchOption found ((other : List Item) → ¬ Writes tokens mandatory other) (λ items. Writes tokens mandatory items)

abbrev Written : Result (List Item) CodeFault → Option (List Item) → Type 0
Written r found = MatchOption found ((r ≡ Err Unfinished) ⊎ (r ≡ Err Malformed)) (λ items. r ≡ Ok items)

module _ (tokens mandatory : List Name) (r : Result (List Item) CodeFault) (found : Option (List Item)) (w : Written r found)
    (unfinished : (r ≡ Err Unfinished) ↔ IsTrue (is_unfinished tokens)) where
  pub packed-found : is_compressed tokens ≡ true → IfOk r (λ items. WritesFinishedCompressed tokens mandatory items) → (r ≡ Err Malformed) ↔ IsMalformed tokens (WritesFinishedCompressed tokens mandatory) → Found tokens mandatory found
  packed-found compressed items malformed = by found w
    where
      by : (found : Option (List Item)) → Written r found → Found tokens mandatory found
      by (Some items') e = inl (compressed, subst (λ q. IfOk q (λ is. WritesFinishedCompressed tokens mandatory is)) e items)
      by None e = elim e [ inl u ↦ (λ other w. (one_answer tokens mandatory).finished other w (unfinished.0 u)) | inr m ↦ malformed-none tokens mandatory compressed (malformed.0 m) ]

  pub normal-found : is_compressed tokens ≡ false → IfOk r (λ items. WritesFinishedNormal tokens items) → (r ≡ Err Malformed) ↔ IsMalformed tokens (WritesFinishedNormal tokens) → Found tokens mandatory found
  normal-found plain items malformed = by found w
    where
      none : r ≡ Err Malformed → (other : List Item) → Writes tokens mandatory other → ⊥
      none e other q = elim q [ inl p ↦ both_ways (is_compressed tokens) plain p.0 | inr p ↦ (malformed.0 e).1 other p.1 ]

      by : (found : Option (List Item)) → Written r found → Found tokens mandatory found
      by (Some items') e = inr (plain, subst (λ q. IfOk q (λ is. WritesFinishedNormal tokens is)) e items)
      by None e = elim e [ inl u ↦ (λ other w. (one_answer tokens mandatory).finished other w (unfinished.0 u)) | inr m ↦ none m ]

-- ---- proofs

pub same-statement : (S : Database) (at : ℕ) (s r : Stmt) → IsProvable S at s → IsProvable S at r → s ≡ r
same-statement S at s r p q = let e : Some s ≡ Some r = sym p.stands ∙ q.stands in cc

-- items that the tokens of the `$p` s write are its items
module _ (S : Database) (at : ℕ) (s : Stmt) (tokens : List Name) (provable : IsProvable S at s) (e : proof_of s ≡ tokens) where
  pub has-items : (items : List Item) → Writes tokens (mandatory_labels (bares S) at s) items → HasItems S at items
  has-items items w = record { stmt = s; provable = provable; written = subst (λ t. Writes t (mandatory_labels (bares S) at s) items) (sym e) w }

  pub written-of : (items : List Item) → HasItems S at items → Writes tokens (mandatory_labels (bares S) at s) items
  written-of items h =
      subst (λ t. Writes t (mandatory_labels (bares S) at s) items) e
      (subst (λ r. Writes (proof_of r) (mandatory_labels (bares S) at r) items) (same-statement S at h.stmt s h.provable provable) h.written)

module _ (S F : Database) (at : ℕ) (s : Stmt) (same : F ≡ bares S) (provable : IsProvable S at s) where
  -- the mandatory labels do not depend on the proof
  pub labels-bare : (t : Stmt) → t ≡ bare s → mandatory_labels F at t ≡ mandatory_labels (bares S) at s
  labels-bare t e =
      ap (mandatory_labels F at) e
      ∙ (ap (map (λ i. label_or_empty (stmt_at F i))) (hypotheses-bare (before F at) s)
      ∙ ap (λ U. mandatory_labels U at s) same)

  proves-stands : (tokens : List Name) → proof_of s ≡ tokens → Proves F at tokens → IsProvedIfProvable S at
  proves-stands tokens e p r q =
      let t = provable-bare S F at s same provable in
      record {
        stmt = s;
        items = p.items;
        provable = provable;
        written = subst (λ ts. Writes ts (mandatory_labels (bares S) at s) p.items) (sym e)
            (subst (λ labels. Writes tokens labels p.items) (labels-bare p.stmt (same-statement F at p.stmt (bare s) p.provable t)) p.written);
        right = subst (λ U. IsRight U at p.items) same p.right;
      }

  stands-proves : (tokens : List Name) → proof_of s ≡ tokens → IsProvedIfProvable S at → Proves F at tokens
  stands-proves tokens e stands =
      let p = stands s provable in
      let written = written-of S at s tokens provable e p.items (record { stmt = p.stmt; provable = p.provable; written = p.written }) in
      record {
        stmt = bare s;
        items = p.items;
        provable = provable-bare S F at s same provable;
        written = subst (λ labels. Writes tokens labels p.items) (sym (labels-bare (bare s) refl)) written;
        right = subst (λ U. IsRight U at p.items) (sym same) p.right;
      }

  -- an answer for the tokens is an answer for the `$p`
  pub judged-stands : {E : Type 0} (tokens : List Name) → proof_of s ≡ tokens → (r : Result Answer E)
      → IfOk r (λ answer. IsAnswerIfAny answer (Proves F at tokens)) → IfOk r (λ answer. IsAnswerIfAny answer (IsProvedIfProvable S at))
  judged-stands tokens e (Ok Proved) h = proves-stands tokens e h
  judged-stands tokens e (Ok Wrong) h = λ stands. h (stands-proves tokens e stands)
  judged-stands tokens e (Ok TooCostly) h = h
  judged-stands tokens e (Err x) h = h

-- there is no `$p` at the position of another statement
pub not-there : (S : Database) (at : ℕ) (s : Stmt) → stmt_at S at ≡ Some s → (is_provable s ≡ true → ⊥) → (r : Stmt) → IsProvable S at r → ⊥
not-there S at s here other r p = other (ap is_provable (let e : Some s ≡ Some r = sym here ∙ p.stands in let same : s ≡ r = cc in same) ∙ p.provable)

-- ---- the labels of mandatory hypotheses

bare-assertion : (s : Stmt) → is_provable s ≡ true → is_assertion (bare s) ≡ true
bare-assertion (Prove label expr proof) h = refl
bare-assertion s h = cc

pub stands-bare : (S F : Database) (at : ℕ) (s : Stmt) → F ≡ bares S → IsProvable S at s → stmt_at F at ≡ Some (bare s)
stands-bare S F at s same p = ap (λ U. stmt_at U at) same ∙ (stmt_at-bares S at ∙ ap (option_map bare) p.stands)

-- what a proof counts does not depend on the proof that is kept with the statement
theorem_work-bare : (S : Database) (s : Stmt) → is_provable s ≡ true → proof_work S (bare s) (proof_of s) ≡ theorem_work S s
theorem_work-bare S (Prove label expr proof) h = refl
theorem_work-bare S s h = absurd (let e = h in cc)

-- the count of an answer is the work of the proof at the position
pub judged-counts : {E : Type 0} (S F : Database) (at : ℕ) (s : Stmt) (m m' : Metered) (tokens : List Name) (r : Result Answer E) → F ≡ bares S → IsProvable S at s → proof_of s ≡ tokens
    → IfOk r (HasCountedProof F at tokens m m') → IfOk r (HasCountedAnswer (proof_work_at S at) m m')
judged-counts {E} S F at s m m' tokens r same p is h = by r h
  where
    work : proof_work (before F at) (bare s) (proof_of s) ≡ proof_work_at S at
    work =
        theorem_work-bare (before F at) s p.provable
        ∙ (ap (λ U. theorem_work (before U at) s) same ∙ sym (ap (theorem_work_of (before (bares S) at)) p.stands))

    one : (answer : Answer) → HasCountedProof F at tokens m m' answer → HasCountedAnswer (proof_work_at S at) m m' answer
    one answer counted =
        subst (λ w. HasCountedAnswer w m m' answer) work
        (subst (λ ts. HasCountedAnswer (proof_work (before F at) (bare s) ts) m m' answer) (sym is) (counted (bare s) (stands-bare S F at s same p)))

    by : (r : Result Answer E) → IfOk r (HasCountedProof F at tokens m m') → IfOk r (HasCountedAnswer (proof_work_at S at) m m')
    by (Ok answer) h = one answer h
    by (Err x) h = h

-- a statement that is no `$p` counts nothing
pub judged-nothing : (S : Database) (at : ℕ) (s : Stmt) (m : Metered) → stmt_at S at ≡ Some s → (is_provable s ≡ true → ⊥) → m ≡ with_work m (proof_work_at S at)
judged-nothing S at s m stands other =
    let none : proof_work_at S at ≡ 0 = ap (theorem_work_of (before (bares S) at)) stands ∙ by s other in
    let same : m.count + proof_work_at S at ≡ m.count = omega (arith, none) in
    sym (ap (λ n. metered n m.limit) same)
  where
    by : (s : Stmt) → (is_provable s ≡ true → ⊥) → theorem_work (before (bares S) at) s ≡ 0
    by (Prove label expr proof) other = absurd (other refl)
    by s other = refl

pub has-assertion : (S F : Database) (at : ℕ) (s : Stmt) → F ≡ bares S → IsProvable S at s → (x : Stmt) × ((stmt_at F at ≡ Some x) × IsTrue (is_assertion x))
has-assertion S F at s same p = (bare s, (stands-bare S F at s same p, bare-assertion s p.provable))

-- a statement of the list without proofs comes from a statement of the list
pub unbare : (o : Option Stmt) (t : Stmt) → option_map bare o ≡ Some t → (s : Stmt) × (o ≡ Some s) × (bare s ≡ t)
unbare None t h = absurd (let e = h in cc)
unbare (Some s) t h = (s, refl, let e = h in cc)

pub hypothesis-of : (S F : Database) (at : ℕ) (s : Stmt) (ps : List ℕ) (k p d : ℕ) → F ≡ bares S → IsProvable S at s → ((x : Stmt) → stmt_at F at ≡ Some x → ps ≡ hypotheses (before F at) x)
    → k < length ps → p ≡ get_or ps k d → IsHypothesisAt S p
hypothesis-of S F at s ps k p d same provable are less is =
    let e : ps ≡ hypotheses (before F at) (bare s) = are (bare s) (stands-bare S F at s same provable) in
    let h = hypothesis-there F (hypotheses (before F at) (bare s)) k p (ap (λ qs. slice_get qs k) (sym e) ∙ (slice_get-get_or ps k d less ∙ ap Some (sym is))) (hypotheses-at F at (bare s)) in
    let u = unbare (stmt_at S p) h.stmt (sym (stmt_at-bares S p) ∙ (ap (λ U. stmt_at U p) (sym same) ∙ h.stands)) in
    record { stmt = u.0; stands = u.1; kind = sym (kind-bare u.0) ∙ (ap is_hypothesis_kind u.2 ∙ h.kind) }

-- the statement at the position of a hypothesis is a hypothesis
pub kind-of : (S : Database) (p : ℕ) → IsHypothesisAt S p → (s : Stmt) → stmt_at S p ≡ Some s → is_hypothesis_kind s ≡ true
kind-of S p h s stands = let e : Some h.stmt ≡ Some s = sym h.stands ∙ stands in ap is_hypothesis_kind (let same : h.stmt ≡ s = cc in sym same) ∙ h.kind

label-bare : (o : Option Stmt) → label_or_empty (option_map bare o) ≡ label_or_empty o
label-bare None = refl
label-bare (Some s) = ap (λ l. unwrap_or l []) (label_of-bare s)

-- the labels of the first hypotheses, with that of the next one
pub labels-more : (S : Database) (ps : List ℕ) (k p d : ℕ) (label : Name) (before after : List Name) → k < length ps → p ≡ get_or ps k d → label ≡ label_or_empty (stmt_at S p)
    → before ≡ map (λ i. label_or_empty (stmt_at (bares S) i)) (take k ps) → after ≡ before ++ label ∷ [] → after ≡ map (λ i. label_or_empty (stmt_at (bares S) i)) (take (k + 1) ps)
labels-more S ps k p d label before after less is labelled so_far added =
    let one : label ≡ label_or_empty (stmt_at (bares S) p) = labelled ∙ (sym (label-bare (stmt_at S p)) ∙ ap label_or_empty (sym (stmt_at-bares S p))) in
    added ∙ (ap (λ r. r ++ label ∷ []) so_far
    ∙ (ap (λ l. map (λ i. label_or_empty (stmt_at (bares S) i)) (take k ps) ++ l ∷ []) (one ∙ ap (λ i. label_or_empty (stmt_at (bares S) i)) is)
    ∙ sym (map_more (λ i. label_or_empty (stmt_at (bares S) i)) ps k d less)))

pub labels-all : (S F : Database) (at : ℕ) (s : Stmt) (ps : List ℕ) (k : ℕ) (labels : List Name) → F ≡ bares S → IsProvable S at s → ((x : Stmt) → stmt_at F at ≡ Some x → ps ≡ hypotheses (before F at) x)
    → take k ps ≡ ps → labels ≡ map (λ i. label_or_empty (stmt_at (bares S) i)) (take k ps) → labels ≡ mandatory_labels (bares S) at s
labels-all S F at s ps k labels same provable are all so_far =
    so_far ∙ ap (map (λ i. label_or_empty (stmt_at (bares S) i)))
    (all ∙ (are (bare s) (stands-bare S F at s same provable) ∙ (hypotheses-bare (before F at) s ∙ ap (λ U. hypotheses (before U at) s) same)))

pub other-kind : (s : Stmt) → is_hypothesis_kind s ≡ true → ((label constant variable : Name) → s ≡ Float label constant variable → ⊥) → ((label : Name) (expr : List Name) → s ≡ Ess label expr → ⊥) → ⊥
other-kind (Float label constant variable) h float ess = float label constant variable refl
other-kind (Ess label expr) h float ess = ess label expr refl
other-kind s h float ess = absurd (let e = h in cc)
