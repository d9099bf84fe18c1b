-- The active statements at a position, and the step from one active statement of a kind to the one
-- before it.
use Rattle.frame.proofs.Words.{sym, ◌∙◌, ap, arith, inl, inr, length-append, le-leb, lt-ltb, ◌≡◌, ℕ, zero, suc, ◌+◌, ◌-◌, ◌<◌, ◌≤◌, Bool, true, ◌&&◌, nat_lt, List, [], ◌∷◌, ◌++◌, length, take, drop, slice_get, Some, refl, take-append_seam, take-take, take_all, drop-take, Stmt, Database, stays_open, is_active, take-get, actives, last_position, last_active_of_kind}
use Rattle.frame.proofs.LegalAfter.{stands-at}
use Rattle.frame.proofs.LastActiveLemmas.{actives-push, length-cut}
use Rattle.frame.proofs.OpenLemmas.{HasLast, IsNoClose, no_close, split_last, last-actives, last-position}

pub get-take : {A : Type 0} (i m : ℕ) (S : List A) → i < m → slice_get (take m S) i ≡ slice_get S i
get-take i zero S h = absurd (omega (arith, h))
get-take i (suc m) [] h = refl
get-take zero (suc m) (x ∷ S) h = refl
get-take (suc i) (suc m) (x ∷ S) h = get-take i m S (omega (arith, h))

pub last-within : (kind : Stmt → Bool) (S : Database) → IsNoClose kind → last_active_of_kind kind S ≤ length S
last-within kind S n = by (split_last kind S)
  where
    by : HasLast kind S → last_active_of_kind kind S ≤ length S
    by (inl none) = rw (none 1) (omega arith)
    by (inr p) = omega (arith, last-position kind S p.0 p.1 p.2 n p.3, ap length p.3.cut, length-append p.0 (p.1 ∷ p.2))

-- a statement is active at `at` exactly if the statements after it and before `at` close no block
-- that was open there
pub active-stays : (S : Database) (i at : ℕ) → 1 ≤ i → i < at → is_active S i at ≡ stays_open 0 (drop i (take (at - 1) S))
active-stays S i at one h =
    let cut : at - 1 ≡ i + (at - 1 - i) = omega (arith, h) in
    ap (λ b. b && nat_lt i at && stays_open 0 (take (at - 1 - i) (drop i S))) (le-leb 1 i one)
    ∙ (ap (λ b. b && stays_open 0 (take (at - 1 - i) (drop i S))) (lt-ltb i at h)
    ∙ ap (stays_open 0) (sym (ap (λ m. drop i (take m S)) cut ∙ drop-take i (at - 1 - i) S)))

-- a statement is active at the end exactly if the statements after it close no block that was open
-- there
pub active-end : (S : Database) (n : ℕ) → n < length S → is_active S (suc n) (length S + 1) ≡ stays_open 0 (drop (suc n) S)
active-end S n lt = active-stays S (suc n) (length S + 1) (omega arith) (omega (arith, lt)) ∙ ap (λ T. stays_open 0 (drop (suc n) T)) (take_all (length S + 1 - 1) S (omega arith))

-- ---- from one active statement of a kind to the one before it

pub record IsBack (kind : Stmt → Bool) (S : Database) (m p : ℕ) (s : Stmt) : Type 0 where
  pub above : 1 ≤ p
  pub within : p ≤ m
  pub stands : slice_get S (p - 1) ≡ Some s
  pub of_kind : kind s ≡ true
  pub list : actives kind (take m S) ≡ actives kind (take (p - 1) S) ++ (p, s) ∷ []

pub walk-back : (kind : Stmt → Bool) (S : Database) (m p : ℕ) → IsNoClose kind → p ≡ last_active_of_kind kind (take m S) → (p ≡ 0 → ⊥) → (s : Stmt) × IsBack kind S m p s
walk-back kind S m p n e some = by (split_last kind (take m S))
  where
    by : HasLast kind (take m S) → (s : Stmt) × IsBack kind S m p s
    by (inl none) = absurd (some (e ∙ ap last_position (none 1)))
    by (inr q) =
        let A = q.0 in let s = q.1 in let l = q.3 in
        let at : p ≡ 1 + length A = e ∙ last-position kind (take m S) A s q.2 n l in
        let back : p - 1 ≡ length A = omega (arith, at) in
        let there = take-get m (length A) S s (ap (λ r. slice_get r (length A)) l.cut ∙ stands-at A s q.2) in
        let low = there.0 in
        let front : A ≡ take (p - 1) S =
        sym (take-append_seam A (s ∷ q.2)) ∙ (ap (take (length A)) (sym l.cut) ∙ (take-take (length A) m S (omega (arith, low)) ∙ ap (λ k. take k S) (sym back))) in (
          s,
          record {
            above = omega (arith, at);
            within = omega (arith, at, low);
            stands = ap (slice_get S) back ∙ there.1;
            of_kind = l.of_kind;
            list = last-actives kind (take m S) A s q.2 n l ∙ (ap (λ r. actives kind r ++ (1 + length A, s) ∷ []) front ∙ ap (λ k. actives kind (take (p - 1) S) ++ (k, s) ∷ []) (sym at));
          },
        )

pub take-one : {A : Type 0} (S : List A) (k : ℕ) (s : A) → slice_get S k ≡ Some s → take (suc k) S ≡ take k S ++ s ∷ []
take-one [] k s g = cc
take-one (x ∷ S) zero s g = let same : x ≡ s = cc in ap (λ y. y ∷ []) same
take-one (x ∷ S) (suc k) s g = ap (λ r. x ∷ r) (take-one S k s g)

-- right after itself, the statement at p is the last active one of its kind
pub back-own : (kind : Stmt → Bool) (S : Database) (m p : ℕ) (s : Stmt) → IsNoClose kind → IsBack kind S m p s → actives kind (take p S) ≡ actives kind (take (p - 1) S) ++ (p, s) ∷ []
back-own kind S m p s n b =
    let one = b.above in
    let place : 1 + length (take (p - 1) S) ≡ p = omega (arith, one, length-cut S (p - 1) s b.stands) in
    let up : p ≡ suc (p - 1) = omega (arith, one) in
    ap (λ i. actives kind (take i S)) up
    ∙ (ap (actives kind) (take-one S (p - 1) s b.stands)
    ∙ (actives-push kind (take (p - 1) S) s (no_close kind s n b.of_kind) ∙ rw (b.of_kind, place) refl))

pub walk-over : (kind : Stmt → Bool) (S : Database) → IsNoClose kind → last_active_of_kind kind S ≡ 0 → actives kind S ≡ []
walk-over kind S n z = by (split_last kind S)
  where
    by : HasLast kind S → actives kind S ≡ []
    by (inl none) = none 1
    by (inr p) = absurd (omega (arith, last-position kind S p.0 p.1 p.2 n p.3, z))
