-- The variables of the `$f` of an assertion are its mandatory variables, in the same order.
use Rattle.frame.proofs.Words.{◌≡◌, ℕ, zero, suc, ◌-◌, ◌==◌, Bool, true, false, cond, ◌||◌, List, [], ◌∷◌, ◌++◌, filter, map, slice_get, Some, refl, sym, ◌∙◌, ap, subst, arith, true≢false, or_parts, false_from_ne_true, append-nil, append_assoc, same_Some, take, take-get, Name, Stmt, Database, HasAssertion, active, actives, before, stmt_at, decode, name_at, hypotheses, is_hypothesis, is_mandatory, AreNumberedHypotheses, IsStatementOf, IsViewOf, AssertionView, HasLegalProperties, Hypothesis, IsEachOnce, has_number, with_number, with_floats, float_variables}
use Rattle.entries.specs.declared.assertion_view.Hypothesis.TheVariants.{Float, Essential}
use Rattle.mm_read.specs.declared.stmt.Stmt.TheVariants as stmt
use Rattle.std.specs.List.{flat_map}
use Rattle.scope.specs.Active.{typed_by}
use Rattle.frame.specs.Sizes.{mandatory_variables}
use Rattle.frame.proofs.PairListLemmas.{has-append, turn, with-number-once}
use Rattle.frame.proofs.PairTableLemmas.{AreThere, actives-there}

-- ---- the variables of the `$f`, each once

pub floats-once : (hs : List Hypothesis) → IsEachOnce (float_variables hs)
floats-once hs = after [] hs tt
  where
    after : (found : List ℕ) (hs : List Hypothesis) → IsEachOnce found → IsEachOnce (with_floats found hs)
    after found [] once = once
    after found (Float x ∷ hs) once = after (with_number found x) hs (with-number-once found x once)
    after found (Essential p ∷ hs) once = after found hs once

-- the variable of each `$f`
abbrev floats_of : List Hypothesis → List ℕ
floats_of [] = []
floats_of (Float x ∷ hs) = x ∷ floats_of hs
floats_of (Essential p ∷ hs) = floats_of hs

-- a number that is followed by others is none of those before it
apart : (found : List ℕ) (x : ℕ) (xs : List ℕ) → IsEachOnce (found ++ x ∷ xs) → has_number found x ≡ false
apart [] x xs once = refl
apart (y ∷ found) x xs once =
    let p = or_parts (has_number found y) ((x == y) || has_number xs y) (sym (has-append found (x ∷ xs) y) ∙ once.0) in
    let q = or_parts (x == y) (has_number xs y) p.1 in
    ap (λ b. b || has_number found x) (turn y x ∙ q.0) ∙ apart found x xs once.1

-- if none occurs twice, all are found
floats-all : (found : List ℕ) (hs : List Hypothesis) → IsEachOnce (found ++ floats_of hs) → with_floats found hs ≡ found ++ floats_of hs
floats-all found [] once = sym (append-nil found)
floats-all found (Float x ∷ hs) once =
    ap (λ b. with_floats (cond b found (found ++ x ∷ [])) hs) (apart found x (floats_of hs) once)
    ∙ (floats-all (found ++ x ∷ []) hs (subst IsEachOnce (sym (append_assoc found (x ∷ []) (floats_of hs))) once) ∙ append_assoc found (x ∷ []) (floats_of hs))
floats-all found (Essential p ∷ hs) once = floats-all found hs once

-- ---- the mandatory `$f`

-- a `$f` is mandatory exactly if its variable is
typed-mandatory : (T : Database) (s : Stmt) (ps : List (ℕ × Stmt)) → flat_map (λ p. typed_by p.1) (filter (λ p. is_hypothesis T s p.1) ps) ≡ filter (is_mandatory T s) (flat_map (λ p. typed_by p.1) ps)
typed-mandatory T s [] = refl
typed-mandatory T s (p ∷ ps) = by p.1 (typed-mandatory T s ps)
  where
    listed : List (ℕ × Stmt)
    listed = filter (λ q. is_hypothesis T s q.1) ps

    typed : List Name
    typed = flat_map (λ q. typed_by q.1) ps

    float : (label constant x : Name) (b : Bool) → flat_map (λ q. typed_by q.1) listed ≡ filter (is_mandatory T s) typed
        → flat_map (λ q. typed_by q.1) (cond b ((p.0, stmt.Float label constant x) ∷ listed) listed) ≡ cond b (x ∷ filter (is_mandatory T s) typed) (filter (is_mandatory T s) typed)
    float label constant x true more = ap (λ l. x ∷ l) more
    float label constant x false more = more

    by : (t : Stmt) → flat_map (λ q. typed_by q.1) listed ≡ filter (is_mandatory T s) typed
        → flat_map (λ q. typed_by q.1) (cond (is_hypothesis T s t) ((p.0, t) ∷ listed) listed) ≡ filter (is_mandatory T s) (typed_by t ++ typed)
    by (stmt.Float label constant x) more = float label constant x (is_mandatory T s x) more
    by (stmt.Ess label expr) more = more
    by t more = more

-- ---- the hypotheses by number

module _ (S : Database) (names : List Name) where
  at-position : (p : ℕ) (t : Stmt) → stmt_at S p ≡ Some t → slice_get S (p - 1) ≡ Some t
  at-position zero t h = cc
  at-position (suc n) t h = let back : suc n - 1 ≡ n = omega arith in ap (slice_get S) back ∙ h

  floats-named : (n : ℕ) (kind : Stmt → Bool) (ps : List (ℕ × Stmt)) (typecodes : List ℕ) (hs : List Hypothesis) → AreThere (take n S) kind ps → AreNumberedHypotheses S names (map (λ p. p.0) ps) typecodes hs
      → decode names (floats_of hs) ≡ flat_map (λ p. typed_by p.1) ps
  floats-named n kind [] [] [] there are = refl
  floats-named n kind (p ∷ ps) (typecode ∷ typecodes) (h ∷ hs) there are =
      let same : are.0.stmt ≡ p.1 = same_Some _ _ (sym (at-position p.0 are.0.stmt are.0.stands) ∙ (take-get n (p.0 - 1) S p.1 there.0.0).1) in
      by p.1 h (subst (λ t. IsStatementOf names p.0 t h) same are.0.is) (floats-named n kind ps typecodes hs there.1 are.1)
    where
      by : (t : Stmt) (h : Hypothesis) → IsStatementOf names p.0 t h → decode names (floats_of hs) ≡ flat_map (λ q. typed_by q.1) ps → decode names (floats_of (h ∷ hs)) ≡ typed_by t ++ flat_map (λ q. typed_by q.1) ps
      by (stmt.Float label constant x) (Float y) is more = ap (λ z. z ∷ decode names (floats_of hs)) is.1 ∙ ap (λ l. x ∷ l) more
      by (stmt.Ess label expr) (Essential q) is more = more
      by t h is more = absurd is
  floats-named n kind ps typecodes hs there are = absurd are

  -- the place of the `$f` of a number
  pub record HasPlace (ps : List ℕ) (x : ℕ) : Type 0 where
    pub place : ℕ
    pub position : ℕ
    pub label : Name
    pub constant : Name
    pub listed : slice_get ps place ≡ Some position
    pub stands : stmt_at S position ≡ Some (stmt.Float label constant (name_at names x))

  has-place : (ps typecodes : List ℕ) (hs : List Hypothesis) (x : ℕ) → AreNumberedHypotheses S names ps typecodes hs → has_number (floats_of hs) x ≡ true → HasPlace ps x
  has-place [] [] [] x are has = absurd (true≢false (sym has))
  has-place (p ∷ ps) (typecode ∷ typecodes) (h ∷ hs) x are has = by are.0.stmt h are.0.stands are.0.is has (has-place ps typecodes hs x are.1)
    where
      later : HasPlace ps x → HasPlace (p ∷ ps) x
      later r = record { place = suc r.place; position = r.position; label = r.label; constant = r.constant; listed = r.listed; stands = r.stands }

      by : (t : Stmt) (h : Hypothesis) → stmt_at S p ≡ Some t → IsStatementOf names p t h → has_number (floats_of (h ∷ hs)) x ≡ true → (has_number (floats_of hs) x ≡ true → HasPlace ps x) → HasPlace (p ∷ ps) x
      by (stmt.Float label constant z) (Float y) stands is has more = one (y == x) refl has
        where
          one : (b : Bool) → (y == x) ≡ b → (b || has_number (floats_of hs) x) ≡ true → HasPlace (p ∷ ps) x
          one true e k = let same : y ≡ x = grind (arith, e) in record {
            place = zero;
            position = p;
            label = label;
            constant = constant;
            listed = refl;
            stands = stands ∙ ap (λ w. Some (stmt.Float label constant w)) (sym is.1 ∙ ap (name_at names) same);
          }
          one false e k = later (more k)
      by (stmt.Ess label expr) (Essential q) stands is has more = later (more has)
      by t h stands is has more = absurd is
  has-place ps typecodes hs x are has = absurd are

  -- no two of the positions are those of `$f` of one variable
  pub record IsTypedOnce (ps : List ℕ) : Type 0 where
    pub once : (k j p q : ℕ) (l c m d x : Name) → slice_get ps k ≡ Some p → slice_get ps j ≡ Some q → stmt_at S p ≡ Some (stmt.Float l c x) → stmt_at S q ≡ Some (stmt.Float m d x) → k ≡ j

  all-once : (ps typecodes : List ℕ) (hs : List Hypothesis) → AreNumberedHypotheses S names ps typecodes hs → IsTypedOnce ps → IsEachOnce (floats_of hs)
  all-once [] [] [] are typed = tt
  all-once (p ∷ ps) (typecode ∷ typecodes) (h ∷ hs) are typed = by are.0.stmt h are.0.stands are.0.is (all-once ps typecodes hs are.1 later)
    where
      later : IsTypedOnce ps
      later = record { once = λ k j q r l c m d x a b u v. let e = typed.once (suc k) (suc j) q r l c m d x a b u v in omega (arith, e) }

      by : (t : Stmt) (h : Hypothesis) → stmt_at S p ≡ Some t → IsStatementOf names p t h → IsEachOnce (floats_of hs) → IsEachOnce (floats_of (h ∷ hs))
      by (stmt.Float label constant z) (Float y) stands is more = (false_from_ne_true (has_number (floats_of hs) y) twice, more)
        where
          twice : has_number (floats_of hs) y ≡ true → ⊥
          twice has =
              let r = has-place ps typecodes hs y are.1 has in
              let e = typed.once zero (suc r.place) p r.position label constant r.label r.constant z refl r.listed stands (r.stands ∙ ap (λ w. Some (stmt.Float r.label r.constant w)) is.1) in
              omega (arith, e)
      by (stmt.Ess label expr) (Essential q) stands is more = more
      by t h stands is more = absurd is
  all-once ps typecodes hs are typed = absurd are

-- the variables of the view of an assertion, named, are its mandatory variables
pub variables-named : (S : Database) (names : List Name) (a : ℕ) (s : Stmt) (c : AssertionView) → HasLegalProperties S names → HasAssertion S a s → IsViewOf S names a s c → decode names (float_variables c.hypotheses) ≡ mandatory_variables (before S a) s
variables-named S names a s c legal stands view =
    let T = before S a in
    let H = is_hypothesis T s in
    let once = all-once S names (hypotheses T s) c.typecodes.now c.hypotheses view.numbered_hypotheses (record { once = (legal.well_typed a s stands).once }) in
    ap (decode names) (floats-all [] c.hypotheses once)
    ∙ (floats-named S names (a - 1) H (actives H T) c.typecodes.now c.hypotheses (actives-there H T [] 1 T refl refl) view.numbered_hypotheses ∙ typed-mandatory T s (active T))
