-- The mandatory hypotheses of an assertion, one at a time.
use Rattle.verify.proofs.Words.{◌≡◌, ℕ, zero, suc, ◌<◌, Bool, true, false, nat_eq, List, [], ◌∷◌, length, slice_get, Some, ◌⊎◌, refl, sym, ◌∙◌, ap, subst, arith, inl, inr, nat_tests, slice_get_within, Name, Stmt, Expr, Database, stmt_at, before, expr_of, name_at, hypotheses, Hypothesis, Float, Essential, IsWellTyped, IsTypecode, IsStatementOf, IsNumberedHypothesis, AreNumberedHypotheses, AreDifferent, IsPresent, ArePresent, some-same}
use Rattle.mm_read.specs.declared.stmt.Stmt.TheVariants as stmt

-- ---- one hypothesis

pub record At (S : Database) (names : List Name) (ps typecodes : List ℕ) (hs : List Hypothesis) (k : ℕ) : Type 0 where
  pub position : ℕ
  pub typecode : ℕ
  pub hypothesis : Hypothesis
  pub listed : slice_get ps k ≡ Some position
  pub first : slice_get typecodes k ≡ Some typecode
  pub kind : slice_get hs k ≡ Some hypothesis
  pub numbered_hypotheses : IsNumberedHypothesis S names position typecode hypothesis

module _ (S : Database) (names : List Name) where
  pub required-lengths : (ps typecodes : List ℕ) (hs : List Hypothesis) → AreNumberedHypotheses S names ps typecodes hs → (length typecodes ≡ length ps) × (length hs ≡ length ps)
  required-lengths [] [] [] a = (refl, refl)
  required-lengths (p ∷ ps) (c ∷ typecodes) (h ∷ hs) a = let r = required-lengths ps typecodes hs a.1 in (ap suc r.0, ap suc r.1)
  required-lengths ps typecodes hs a = absurd a

  pub required-at : (ps typecodes : List ℕ) (hs : List Hypothesis) (k : ℕ) → AreNumberedHypotheses S names ps typecodes hs → k < length ps → At S names ps typecodes hs k
  required-at [] typecodes hs k a h = absurd (omega (arith, h))
  required-at (p ∷ ps) (c ∷ typecodes) (x ∷ hs) zero a h = record { position = p; typecode = c; hypothesis = x; listed = refl; first = refl; kind = refl; numbered_hypotheses = a.0 }
  required-at (p ∷ ps) (c ∷ typecodes) (x ∷ hs) (suc k) a h =
      let r = required-at ps typecodes hs k a.1 (omega (arith, h)) in
      record { position = r.position; typecode = r.typecode; hypothesis = r.hypothesis; listed = r.listed; first = r.first; kind = r.kind; numbered_hypotheses = r.numbered_hypotheses }
  required-at ps typecodes hs k a h = absurd a

  -- the statement at the position of a `$f`, and that at the position of a `$e`
  pub record FloatAt (p typecode x : ℕ) : Type 0 where
    pub label : Name
    pub constant : Name
    pub variable : Name
    pub stands : stmt_at S p ≡ Some (stmt.Float label constant variable)
    pub below : x < length names
    pub named : name_at names x ≡ variable
    pub typecode_named : name_at names typecode ≡ constant

  pub record EssentialAt (p typecode q : ℕ) : Type 0 where
    pub label : Name
    pub expr : Expr
    pub stands : stmt_at S p ≡ Some (stmt.Ess label expr)
    pub same : q ≡ p
    pub first : IsTypecode names typecode expr

  pub float-at : (p typecode x : ℕ) → IsNumberedHypothesis S names p typecode (Float x) → FloatAt p typecode x
  float-at p typecode x a = by a.stmt a.stands a.first a.is
    where
      by : (r : Stmt) → stmt_at S p ≡ Some r → IsTypecode names typecode (expr_of r) → IsStatementOf names p r (Float x) → FloatAt p typecode x
      by (stmt.Float l c v) stands first is = record { label = l; constant = c; variable = v; stands = stands; below = is.0; named = is.1; typecode_named = first.1 }
      by r stands first is = absurd is

  pub essential-at : (p typecode q : ℕ) → IsNumberedHypothesis S names p typecode (Essential q) → EssentialAt p typecode q
  essential-at p typecode q a = by a.stmt a.stands a.first a.is
    where
      by : (r : Stmt) → stmt_at S p ≡ Some r → IsTypecode names typecode (expr_of r) → IsStatementOf names p r (Essential q) → EssentialAt p typecode q
      by (stmt.Ess l e) stands first is = record { label = l; expr = e; stands = stands; same = is; first = first }
      by r stands first is = absurd is

  -- a `$f` is required as a `Float` with the number of its variable
  pub float-number : (p typecode : ℕ) (h : Hypothesis) (l c v : Name) → IsNumberedHypothesis S names p typecode h → stmt_at S p ≡ Some (stmt.Float l c v)
      → (x : ℕ) × (h ≡ Float x) × (x < length names) × (name_at names x ≡ v)
  float-number p typecode (Float x) l c v a stands =
      let f = float-at p typecode x a in
      let same : Some (stmt.Float f.label f.constant f.variable) ≡ Some (stmt.Float l c v) = sym f.stands ∙ stands in
      let one : f.variable ≡ v = cc in
      (x, refl, f.below, f.named ∙ one)
  float-number p typecode (Essential q) l c v a stands =
      let f = essential-at p typecode q a in
      let same : Some (stmt.Ess f.label f.expr) ≡ Some (stmt.Float l c v) = sym f.stands ∙ stands in cc

  pub required-standing : (ps typecodes : List ℕ) (hs : List Hypothesis) → AreNumberedHypotheses S names ps typecodes hs → ArePresent S hs
  required-standing [] [] [] a = tt
  required-standing (p ∷ ps) (c ∷ typecodes) (h ∷ hs) a = (one h a.0, required-standing ps typecodes hs a.1)
    where
      one : (h : Hypothesis) → IsNumberedHypothesis S names p c h → IsPresent S h
      one (Float x) a = tt
      one (Essential q) a = let f = essential-at p c q a in (stmt.Ess f.label f.expr, ap (stmt_at S) f.same ∙ f.stands)
  required-standing ps typecodes hs a = absurd a

  -- the mandatory `$f` are of different variables
  pub required-different : (a : ℕ) (s : Stmt) (typecodes : List ℕ) (hs : List Hypothesis) → IsWellTyped S a s → AreNumberedHypotheses S names (hypotheses (before S a) s) typecodes hs → AreDifferent hs
  required-different a s typecodes hs bound numbered_hypotheses = record { each = λ j k x p q. one j k x p q }
    where
      one : (j k x : ℕ) → slice_get hs j ≡ Some (Float x) → slice_get hs k ≡ Some (Float x) → j ≡ k
      one j k x p q =
          let lens = required-lengths (hypotheses (before S a) s) typecodes hs numbered_hypotheses in
          let jn = slice_get_within hs j (Float x) p in
          let kn = slice_get_within hs k (Float x) q in
          let ja = required-at (hypotheses (before S a) s) typecodes hs j numbered_hypotheses (let l = lens.1 in omega (arith, jn, l)) in
          let ka = required-at (hypotheses (before S a) s) typecodes hs k numbered_hypotheses (let l = lens.1 in omega (arith, kn, l)) in
          let f = float-at ja.position ja.typecode x (subst (IsNumberedHypothesis S names ja.position ja.typecode) (some-same ja.kind p) ja.numbered_hypotheses) in
          let g = float-at ka.position ka.typecode x (subst (IsNumberedHypothesis S names ka.position ka.typecode) (some-same ka.kind q) ka.numbered_hypotheses) in
          bound.once j k ja.position ka.position f.label f.constant g.label g.constant f.variable ja.listed ka.listed f.stands
          (g.stands ∙ ap (λ v. Some (stmt.Float g.label g.constant v)) (sym g.named ∙ f.named))

-- a number is the variable of some `$f`, or of no `$f`
pub float-find : (hs : List Hypothesis) (x : ℕ) → ((k : ℕ) × (slice_get hs k ≡ Some (Float x))) ⊎ ((k : ℕ) → slice_get hs k ≡ Some (Float x) → ⊥)
float-find [] x = inr (λ k h. cc)
float-find (Essential q ∷ hs) x = on (float-find hs x)
  where
    on : ((k : ℕ) × (slice_get hs k ≡ Some (Float x))) ⊎ ((k : ℕ) → slice_get hs k ≡ Some (Float x) → ⊥)
        → ((k : ℕ) × (slice_get (Essential q ∷ hs) k ≡ Some (Float x))) ⊎ ((k : ℕ) → slice_get (Essential q ∷ hs) k ≡ Some (Float x) → ⊥)
    on (inl f) = inl (suc f.0, f.1)
    on (inr none) = inr other
      where
        other : (k : ℕ) → slice_get (Essential q ∷ hs) k ≡ Some (Float x) → ⊥
        other zero h = cc
        other (suc k) h = none k h
float-find (Float y ∷ hs) x = on (nat_eq y x) refl (float-find hs x)
  where
    same : nat_eq y x ≡ true → y ≡ x
    same e = grind (arith, nat_tests, e)

    differ : nat_eq y x ≡ false → y ≡ x → ⊥
    differ e one = grind (arith, nat_tests, e, one)

    on : (b : Bool) → nat_eq y x ≡ b → ((k : ℕ) × (slice_get hs k ≡ Some (Float x))) ⊎ ((k : ℕ) → slice_get hs k ≡ Some (Float x) → ⊥)
        → ((k : ℕ) × (slice_get (Float y ∷ hs) k ≡ Some (Float x))) ⊎ ((k : ℕ) → slice_get (Float y ∷ hs) k ≡ Some (Float x) → ⊥)
    on true e r = inl (zero, ap (λ n. Some (Float n)) (same e))
    on false e (inl f) = inl (suc f.0, f.1)
    on false e (inr none) = inr other
      where
        other : (k : ℕ) → slice_get (Float y ∷ hs) k ≡ Some (Float x) → ⊥
        other zero h = let one : y ≡ x = cc in differ e one
        other (suc k) h = none k h
