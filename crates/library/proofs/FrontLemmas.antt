-- Values that are read from the first statements of a list stay the same when others are appended.
use Rattle.library.proofs.Words.{◌≡◌, ℕ, zero, suc, ◌+◌, ◌-◌, ◌<◌, ◌≤◌, true, ◌&&◌, nat_le, nat_lt, List, [], ◌∷◌, ◌++◌, length, map, take, drop, get_or, Some, slice_get, refl, sym, ◌∙◌, ap, subst, arith, and_parts, nat_tests, take-append-le, drop-append-le, length-drop, take-append-drop, slice_get-get_or, Stmt, Prove, Database, stmt_at, before, bare, is_active, stays_open, hypotheses, is_hypothesis_kind, stands-within, stmt_stays, hypothesis-kinds, IsHyp, AreHyps, hyps}

pub get-front : {A : Type 0} (xs ys : List A) (n : ℕ) → n < length xs → slice_get (xs ++ ys) n ≡ slice_get xs n
get-front [] ys n h = absurd (omega (arith, h))
get-front (x ∷ xs) ys zero h = refl
get-front (x ∷ xs) ys (suc n) h = get-front xs ys n (omega (arith, h))

get-after : {A : Type 0} (xs ys : List A) (n : ℕ) → slice_get (xs ++ ys) (length xs + n) ≡ slice_get ys n
get-after [] ys n = let e : 0 + n ≡ n = omega arith in ap (slice_get ys) e
get-after (x ∷ xs) ys n = let e : suc (length xs) + n ≡ suc (length xs + n) = omega arith in ap (slice_get (x ∷ (xs ++ ys))) e ∙ get-after xs ys n

pub stmt_at-front : (S T : Database) (i : ℕ) → i ≤ length S → stmt_at (S ++ T) i ≡ stmt_at S i
stmt_at-front S T zero h = refl
stmt_at-front S T (suc n) h = get-front S T n (omega (arith, h))

pub stmt_at-after : (S T : Database) (n : ℕ) → stmt_at (S ++ T) (length S + suc n) ≡ stmt_at T (suc n)
stmt_at-after S T n = let e : length S + suc n ≡ suc (length S + n) = omega arith in ap (stmt_at (S ++ T)) e ∙ get-after S T n

pub before-front : (S T : Database) (i : ℕ) → i ≤ length S → before (S ++ T) i ≡ before S i
before-front S T i h = take-append-le (i - 1) S T (omega (arith, h))

between-front : (S T : Database) (i j : ℕ) → i < j → j ≤ length S → take (j - 1 - i) (drop i (S ++ T)) ≡ take (j - 1 - i) (drop i S)
between-front S T i j less within =
    let l = length-drop i S in
    ap (take (j - 1 - i)) (drop-append-le i S T (omega (arith, less, within)))
    ∙ take-append-le (j - 1 - i) (drop i S) T (omega (arith, less, within, l))

pub active-below : (S : Database) (i j : ℕ) → is_active S i j ≡ true → i < j
active-below S i j h =
    let first = and_parts (nat_le 1 i && nat_lt i j) (stays_open 0 (take (j - 1 - i) (drop i S))) h in
    let b = and_parts (nat_le 1 i) (nat_lt i j) first.0 in
    grind (arith, nat_tests, b.1)

pub active-later : (S T : Database) (i j : ℕ) → j ≤ length S → is_active S i j ≡ true → is_active (S ++ T) i j ≡ true
active-later S T i j within h =
    ap (λ U. nat_le 1 i && nat_lt i j && stays_open 0 U) (between-front S T i j (active-below S i j h) within) ∙ h

-- ---- mandatory hypotheses

-- a `$f` or `$e` is at the position
pub record IsHypothesisAt (S : Database) (p : ℕ) : Type 0 where
  pub stmt : Stmt
  pub stands : stmt_at S p ≡ Some stmt
  pub kind : is_hypothesis_kind stmt ≡ true

abbrev pub AreHypothesesAt : Database → List ℕ → Type 0
AreHypothesesAt S [] = Unit {0}
AreHypothesesAt S (p ∷ ps) = IsHypothesisAt S p × AreHypothesesAt S ps

pub hypotheses-stand : (S : Database) (s : Stmt) → AreHypothesesAt S (hypotheses S s)
hypotheses-stand S s = by (hypotheses S s) (hyps S s)
  where
    one : (p : ℕ) → IsHyp S s p → IsHypothesisAt S p
    one p h =
        let there : stmt_at S (suc (length h.front)) ≡ slice_get (h.front ++ h.stmt ∷ h.rest) (length h.front) = ap (λ U. slice_get U (length h.front)) h.whole in
        let last : length h.front ≡ length h.front + 0 = omega arith in
        record { stmt = h.stmt; stands = ap (stmt_at S) h.at ∙ (there ∙ (ap (slice_get (h.front ++ h.stmt ∷ h.rest)) last ∙ get-after h.front (h.stmt ∷ h.rest) 0)); kind = hypothesis-kinds S s h.stmt h.passes }

    by : (ps : List ℕ) → AreHyps S s ps → AreHypothesesAt S ps
    by [] h = tt
    by (p ∷ ps) h = (one p h.0, by ps h.1)

-- functions that agree on all positions up to the last statement agree on a list of positions of
-- hypotheses
pub map-stand : {A : Type 0} (S : Database) (f g : ℕ → A) → ((i : ℕ) → i ≤ length S → f i ≡ g i) → (ps : List ℕ) → AreHypothesesAt S ps → map f ps ≡ map g ps
map-stand S f g same [] h = refl
map-stand S f g same (p ∷ ps) h = ap (λ v. v ∷ map f ps) (same p (stands-within S p h.0.stmt h.0.stands).1) ∙ ap (λ vs. g p ∷ vs) (map-stand S f g same ps h.1)

pub hypotheses-later : (S T : Database) (ps : List ℕ) → AreHypothesesAt S ps → AreHypothesesAt (S ++ T) ps
hypotheses-later S T [] h = tt
hypotheses-later S T (p ∷ ps) h = (record { stmt = h.0.stmt; stands = stmt_stays S T p h.0.stmt h.0.stands; kind = h.0.kind }, hypotheses-later S T ps h.1)

pub hypotheses-at : (S : Database) (at : ℕ) (s : Stmt) → AreHypothesesAt S (hypotheses (before S at) s)
hypotheses-at S at s =
    subst (λ U. AreHypothesesAt U (hypotheses (before S at) s)) (take-append-drop (at - 1) S)
    (hypotheses-later (before S at) (drop (at - 1) S) (hypotheses (before S at) s) (hypotheses-stand (before S at) s))

pub hypothesis-there : (S : Database) (ps : List ℕ) (k i : ℕ) → slice_get ps k ≡ Some i → AreHypothesesAt S ps → IsHypothesisAt S i
hypothesis-there S [] k i e h = absurd (let f = e in cc)
hypothesis-there S (p ∷ ps) zero i e h = let same : p ≡ i = (let f = e in cc) in subst (IsHypothesisAt S) same h.0
hypothesis-there S (p ∷ ps) (suc k) i e h = hypothesis-there S ps k i e h.1

-- ---- statements without their proofs

pub hypotheses-bare : (S : Database) (s : Stmt) → hypotheses S (bare s) ≡ hypotheses S s
hypotheses-bare S (Prove label expr proof) = refl
hypotheses-bare S s = refl

pub kind-bare : (s : Stmt) → is_hypothesis_kind (bare s) ≡ is_hypothesis_kind s
kind-bare (Prove label expr proof) = refl
kind-bare s = refl

-- the statement at a position is the one at the index that is one less
pub stands_index : (S : Database) (at : ℕ) (s : Stmt) → 1 ≤ at → at ≤ length S → s ≡ get_or S (at - 1) s → stmt_at S at ≡ Some s
stands_index S at s positive within is =
    let e : at ≡ suc (at - 1) = omega (arith, positive) in
    ap (stmt_at S) e ∙ (slice_get-get_or S (at - 1) s (omega (arith, positive, within)) ∙ ap Some (sym is))
