-- The mandatory hypotheses of a statement, as entries of a table.
use Rattle.verify.proofs.Words.{◌≡◌, ℕ, zero, suc, ◌+◌, ◌-◌, ◌<◌, ◌≤◌, Bool, true, ◌&&◌, nat_le, nat_lt, List, [], ◌∷◌, ◌++◌, length, map, take, drop, get_or, slice_get, Some, unwrap_or, refl, sym, ◌∙◌, ap, subst, arith, append_assoc, length-append, nat_tests, take-append-drop, take_at, drop_at, length-take-le, length-map, length_push, Name, Stmt, Ess, Database, before, label_of, stays_open, stmt_at, stands-within, Carries, IsHypothesis, is_hypothesis_kind, hypotheses, LabelEntry, Nothing, label_or_empty, mandatory_labels, IsProvable, IsEntry, AreEntries, IsHyp, AreHyps, hyps, hypothesis-kinds}
use Rattle.mm_read.specs.declared.stmt.Stmt.TheVariants.{Float}
use Rattle.verify.specs.declared.label_table.LabelEntry.TheVariants.{Hypothesis}

-- ---- one hypothesis

has-label : (t : Stmt) → is_hypothesis_kind t ≡ true → label_of t ≡ Some (unwrap_or (label_of t) [])
has-label (Ess label expr) h = refl
has-label (Float label constant variable) h = refl
has-label t h = cc

get-middle : (front : Database) (t : Stmt) (rest more : Database) → slice_get ((front ++ t ∷ rest) ++ more) (length front) ≡ Some t
get-middle [] t rest more = refl
get-middle (x ∷ front) t rest more = get-middle front t rest more

between-middle : (front : Database) (t : Stmt) (rest more : Database) (n : ℕ) → n ≡ length rest → take n (drop (suc (length front)) ((front ++ t ∷ rest) ++ more)) ≡ rest
between-middle front t rest more n e =
    ap (λ u. take n (drop (suc (length front)) u)) (append_assoc front (t ∷ rest) more ∙ sym (append_assoc front (t ∷ []) (rest ++ more)))
    ∙ (ap (take n) (drop_at (front ++ t ∷ []) (rest ++ more) (suc (length front)) (omega (arith, length_push front t))) ∙ take_at rest more n (sym e))

-- a mandatory hypothesis is active, and carries its label
pub record IsMandatory (S : Database) (at p : ℕ) : Type 0 where
  pub stmt : Stmt
  pub carries : Carries S p stmt (label_or_empty (stmt_at S p))
  pub active : IsHypothesis S at p stmt

and-true : (a b c : Bool) → a ≡ true → b ≡ true → c ≡ true → (a && b && c) ≡ true
and-true a b c p q r = rw (p, q, r) refl

mandatory-is : (S : Database) (at : ℕ) (s : Stmt) (p : ℕ) → 1 ≤ at → at ≤ length S → IsHyp (before S at) s p → IsMandatory S at p
mandatory-is S at s p low high h =
    let whole : S ≡ (h.front ++ h.stmt ∷ h.rest) ++ drop (at - 1) S = sym (take-append-drop (at - 1) S) ∙ ap (λ u. u ++ drop (at - 1) S) h.whole in
    let stands : stmt_at S p ≡ Some h.stmt = ap (stmt_at S) h.at ∙ (ap (λ u. slice_get u (length h.front)) whole ∙ get-middle h.front h.stmt h.rest (drop (at - 1) S)) in
    let kind : is_hypothesis_kind h.stmt ≡ true = hypothesis-kinds (before S at) s h.stmt h.passes in
    let long : at - 1 ≡ length h.front + suc (length h.rest) = sym (length-take-le (at - 1) S (omega (arith, high))) ∙ (ap length h.whole ∙ length-append h.front (h.stmt ∷ h.rest)) in
    let between : take (at - 1 - p) (drop p S) ≡ h.rest =
    ap (λ k. take (at - 1 - k) (drop k S)) h.at ∙ (ap (λ u. take (at - 1 - suc (length h.front)) (drop (suc (length h.front)) u)) whole ∙ between-middle h.front h.stmt h.rest (drop (at - 1) S) (at - 1 - suc (length h.front)) (omega (arith, long))) in
    let first : nat_le 1 p ≡ true = let e = h.at in grind (arith, nat_tests) in
    let earlier : p < at = let e = h.at in omega (arith, long, e) in
    let test : nat_lt p at ≡ true = grind (arith, nat_tests) in
    record {
      stmt = h.stmt;
      carries = record { stands = stands; carried = has-label h.stmt kind ∙ ap (λ o. Some (label_or_empty o)) (sym stands) };
      active = record { stands = stands; kind = kind; active = and-true (nat_le 1 p) (nat_lt p at) (stays_open 0 (take (at - 1 - p) (drop p S))) first test (ap (stays_open 0) between ∙ h.stays) };
    }

abbrev pub AreMandatory : Database → ℕ → List ℕ → Type 0
AreMandatory S at [] = Unit {0}
AreMandatory S at (p ∷ ps) = IsMandatory S at p × AreMandatory S at ps

all-mandatory : (S : Database) (at : ℕ) (s : Stmt) (ps : List ℕ) → 1 ≤ at → at ≤ length S → AreHyps (before S at) s ps → AreMandatory S at ps
all-mandatory S at s [] low high h = tt
all-mandatory S at s (p ∷ ps) low high h = (mandatory-is S at s p low high h.0, all-mandatory S at s ps low high h.1)

abbrev pub labels_at : Database → List ℕ → List Name
labels_at S ps = map (λ i. label_or_empty (stmt_at S i)) ps

pub mandatory-of : (S : Database) (at : ℕ) (s : Stmt) → IsProvable S at s → AreMandatory S at (hypotheses (before S at) s)
mandatory-of S at s p =
    let place = stands-within S at s p.stands in
    all-mandatory S at s (hypotheses (before S at) s) place.0 place.1 (hyps (before S at) s)

-- ---- their entries

entry-each : (S : Database) (at : ℕ) (ps : List ℕ) → AreMandatory S at ps → (k : ℕ) → k < length (labels_at S ps) → IsEntry S at (get_or (labels_at S ps) k []) (get_or (map Hypothesis ps) k Nothing)
entry-each S at [] h k less = absurd (omega (arith, less))
entry-each S at (p ∷ ps) h zero less = (h.0.stmt, h.0.carries, h.0.active)
entry-each S at (p ∷ ps) h (suc k) less = entry-each S at ps h.1 k (omega (arith, less))

pub mandatory-entries : (S : Database) (at : ℕ) (s : Stmt) (ps : List ℕ) (table : List LabelEntry) → IsProvable S at s → ps ≡ hypotheses (before S at) s → table ≡ map Hypothesis ps → AreEntries S at (mandatory_labels S at s) table
mandatory-entries S at s ps table p are filled =
    let hs : List ℕ = hypotheses (before S at) s in
    subst (AreEntries S at (labels_at S (hypotheses (before S at) s))) (sym (filled ∙ ap (map Hypothesis) are))
    (record {
      count = length-map (hypotheses (before S at) s) Hypothesis ∙ sym (length-map (hypotheses (before S at) s) (λ i. label_or_empty (stmt_at S i)));
      each = entry-each S at (hypotheses (before S at) s) (mandatory-of S at s p);
    })
