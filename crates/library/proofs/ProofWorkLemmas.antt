-- What proofs count: by position, as jobs of a pool, and in the counts of a text.
use Rattle.library.proofs.Words.{◌≡◌, ℕ, zero, suc, ◌+◌, ◌-◌, ◌<◌, ◌≤◌, List, [], ◌∷◌, ◌++◌, length, take, get_or, Option, Some, None, slice_get-get_or, refl, sym, ◌∙◌, ap, arith, length-map, map-append, Stmt, Prove, Database, bare, bares, before, stmt_at, IsProvable, AreProvablesAfter}
use Rattle.verify_pool.specs.FirstStop.{work_to}
use Rattle.library.specs.ProofJobs.{proof_work_at, proofs_work, theorem_work_of}
use Rattle.library.specs.Work.{proof_counts, theorem_work, total}
use Rattle.library.proofs.FrontLemmas.{stmt_at-after}
use Rattle.library.proofs.WorkLemmas.{take-none, total-more}
use Rattle.mm_read.specs.declared.stmt.Stmt.TheVariants.{Open}

-- ---- by position

-- a statement that is no `$p` counts nothing
no-proof : (S : Database) (at : ℕ) → ((s : Stmt) → IsProvable S at s → ⊥) → proof_work_at S at ≡ 0
no-proof S at none = by (stmt_at S at) refl
  where
    by : (o : Option Stmt) → stmt_at S at ≡ o → theorem_work_of (before (bares S) at) o ≡ 0
    by None e = refl
    by (Some (Prove label expr proof)) e = absurd (none (Prove label expr proof) (record { stands = e; provable = refl }))
    by (Some s) e = refl

pub proofs_work-add : (S : Database) (start a b : ℕ) → proofs_work S start (a + b) ≡ proofs_work S start a + proofs_work S (start + a) b
proofs_work-add S start a zero = let same : a + 0 ≡ a = omega arith in let e = ap (proofs_work S start) same in omega (arith, e)
proofs_work-add S start a (suc b) =
    let next : a + suc b ≡ suc (a + b) = omega arith in
    let place : start + suc (a + b) ≡ start + a + suc b = omega arith in
    let whole = ap (proofs_work S start) next in
    let one = ap (proof_work_at S) place in
    let rest = proofs_work-add S start a b in
    omega (arith, whole, one, rest)

-- the same by positions
pub proofs_work-between : (S : Database) (start mid end : ℕ) → start ≤ mid → mid ≤ end
    → proofs_work S start (end - start) ≡ proofs_work S start (mid - start) + proofs_work S mid (end - mid)
proofs_work-between S start mid end low high =
    let whole : end - start ≡ (mid - start) + (end - mid) = omega (arith, low, high) in
    let place : start + (mid - start) ≡ mid = omega (arith, low) in
    ap (proofs_work S start) whole
    ∙ (proofs_work-add S start (mid - start) (end - mid) ∙ ap (λ n. proofs_work S start (mid - start) + proofs_work S n (end - mid)) place)

-- statements of which none is a `$p` count nothing
no-proofs : (S : Database) (start k : ℕ) → ((at : ℕ) (s : Stmt) → start < at → at ≤ start + k → IsProvable S at s → ⊥) → proofs_work S start k ≡ 0
no-proofs S start zero none = refl
no-proofs S start (suc k) none =
    let first = no-proofs S start k (λ at s above below. none at s above (omega (arith, below))) in
    let last = no-proof S (start + suc k) (λ s p. none (start + suc k) s (omega arith) (omega arith) p) in
    omega (arith, first, last)

-- up to a position before which there is no `$p`, its own proof counts
one-proof : (S : Database) (start at : ℕ) → start < at → ((m : ℕ) (s : Stmt) → start < m → m < at → IsProvable S m s → ⊥)
    → proofs_work S start (at - start) ≡ proof_work_at S at
one-proof S start at above none = by (at - start) refl
  where
    by : (k : ℕ) → at - start ≡ k → proofs_work S start k ≡ proof_work_at S at
    by zero e = absurd (omega (arith, above, e))
    by (suc k) e =
        let place : start + suc k ≡ at = omega (arith, e, above) in
        let first = no-proofs S start k (λ m s low high p. none m s low (omega (arith, high, place)) p) in
        let last = ap (proof_work_at S) place in
        omega (arith, first, last)

-- ---- as jobs

-- what the jobs count, the first apart
work_to-first : (f : ℕ → ℕ) (k : ℕ) → work_to f (suc k) ≡ f 0 + work_to (λ i. f (suc i)) k
work_to-first f zero = omega arith
work_to-first f (suc k) = let e = work_to-first f k in omega (arith, e)

-- the position at an index is after `start`, and not after `end`
pub placed : (S : Database) (start end : ℕ) (ps : List ℕ) (i : ℕ) → AreProvablesAfter S start end ps → i < length ps → (start < get_or ps i 0) × (get_or ps i 0 ≤ end)
placed S start end [] i are less = absurd (omega (arith, less))
placed S start end (at ∷ ps) zero are less = (are.0, are.1)
placed S start end (at ∷ ps) (suc i) are less =
    let rest = placed S at end ps i are.3 (omega (arith, less)) in
    (omega (arith, are.0, rest.0), rest.1)

module _ (S : Database) (end : ℕ) where
  -- the jobs up to one count what the proofs up to its position do
  pub work_to-through : (start : ℕ) (ps : List ℕ) (i : ℕ) → AreProvablesAfter S start end ps → i < length ps
      → work_to (λ k. proof_work_at S (get_or ps k 0)) (suc i) ≡ proofs_work S start (get_or ps i 0 - start)
  work_to-through start [] i are less = absurd (omega (arith, less))
  work_to-through start (at ∷ ps) zero are less =
      let one = one-proof S start at are.0 are.2 in
      omega (arith, one)
  work_to-through start (at ∷ ps) (suc i) are less =
      let within : i < length ps = omega (arith, less) in
      let first = work_to-first (λ k. proof_work_at S (get_or (at ∷ ps) k 0)) (suc i) in
      let rest = work_to-through at ps i are.3 within in
      let one = one-proof S start at are.0 are.2 in
      let above = placed S at end ps i are.3 within in
      let whole = proofs_work-between S start at (get_or ps i 0) (omega (arith, are.0)) (omega (arith, above.0)) in
      omega (arith, first, rest, one, whole)

  -- the jobs before one count what the proofs before its position do
  pub work_to-before : (start : ℕ) (ps : List ℕ) (i : ℕ) → AreProvablesAfter S start end ps → i < length ps
      → work_to (λ k. proof_work_at S (get_or ps k 0)) i ≡ proofs_work S start (get_or ps i 0 - start - 1)
  work_to-before start ps i are less =
      let through = work_to-through start ps i are less in
      let above = placed S start end ps i are less in
      let next : get_or ps i 0 - start ≡ suc (get_or ps i 0 - start - 1) = omega (arith, above.0) in
      let place : start + suc (get_or ps i 0 - start - 1) ≡ get_or ps i 0 = omega (arith, above.0) in
      let split = ap (proofs_work S start) next in
      let one = ap (proof_work_at S) place in
      omega (arith, through, split, one)

  -- all jobs count what all proofs do
  pub work_to-all : (start : ℕ) (ps : List ℕ) → start ≤ end → AreProvablesAfter S start end ps
      → work_to (λ k. proof_work_at S (get_or ps k 0)) (length ps) ≡ proofs_work S start (end - start)
  work_to-all start [] low are =
      let none = no-proofs S start (end - start) (λ at s above below p. are at s above (omega (arith, below, low)) p) in
      omega (arith, none)
  work_to-all start (at ∷ ps) low are =
      let first = work_to-first (λ k. proof_work_at S (get_or (at ∷ ps) k 0)) (length ps) in
      let rest = work_to-all at ps are.1 are.3 in
      let one = one-proof S start at are.0 are.2 in
      let whole = proofs_work-between S start at end (omega (arith, are.0)) are.1 in
      omega (arith, first, rest, one, whole)

-- ---- in the counts of a text

take-after : {A : Type 0} (k : ℕ) (a b : List A) → take (length a + k) (a ++ b) ≡ a ++ take k b
take-after k [] b = let same : 0 + k ≡ k = omega arith in ap (λ n. take n b) same
take-after k (x ∷ a) b =
    let same : suc (length a) + k ≡ suc (length a + k) = omega arith in
    ap (λ n. take n (x ∷ (a ++ b))) same ∙ ap (λ l. x ∷ l) (take-after k a b)

take-bares : (k : ℕ) (T : Database) → take k (bares T) ≡ bares (take k T)
take-bares zero T = take-none (bares T) ∙ sym (ap bares (take-none T))
take-bares (suc k) [] = refl
take-bares (suc k) (s ∷ T) = ap (λ l. bare s ∷ l) (take-bares k T)

-- the statements before one that follows others, without their proofs
before-after : (L T : Database) (k : ℕ) → before (bares (L ++ T)) (length L + suc k) ≡ bares L ++ bares (take k T)
before-after L T k =
    let count : length L + suc k - 1 ≡ length (bares L) + k = omega (arith, length-map L bare) in
    ap (λ n. take n (bares (L ++ T))) count
    ∙ (ap (take (length (bares L) + k)) (map-append bare L T)
    ∙ (take-after k (bares L) (bares T) ∙ ap (λ l. bares L ++ l) (take-bares k T)))

proof_work_at-after : (L T : Database) (k : ℕ) (d : Stmt) → k < length T
    → proof_work_at (L ++ T) (length L + suc k) ≡ theorem_work (bares L ++ bares (take k T)) (get_or T k d)
proof_work_at-after L T k d less =
    ap (theorem_work_of (before (bares (L ++ T)) (length L + suc k))) (stmt_at-after L T k ∙ slice_get-get_or T k d less)
    ∙ ap (λ U. theorem_work U (get_or T k d)) (before-after L T k)

-- the counts of the first proofs of a text sum to what they count by position
pub total-proofs : (L T : Database) (k : ℕ) → k ≤ length T → total (proof_counts L (take k T)) ≡ proofs_work (L ++ T) (length L) k
total-proofs L T zero within = ap (λ U. total (proof_counts L U)) (take-none T)
total-proofs L T (suc k) within =
    let next : k + 1 ≡ suc k = omega arith in
    let less : k < length T = omega (arith, within) in
    let same = ap (λ n. total (proof_counts L (take n T))) next in
    let more = total-more theorem_work (bares L) T k Open less in
    let first = total-proofs L T k (omega (arith, within)) in
    let one = proof_work_at-after L T k Open less in
    omega (arith, same, more, first, one)
