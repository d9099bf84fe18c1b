-- Counts and works: their sums, where they pass a limit, and the works of texts that are added one
-- after another.
use Rattle.library.proofs.Words.{◌≡◌, ℕ, suc, ◌+◌, ◌-◌, ◌<◌, ◌≤◌, Bool, true, false, if◌then◌else◌, nat_lt, List, [], ◌∷◌, ◌++◌, length, take, drop, get_or, Option, Some, None, refl, sym, ◌∙◌, ap, arith, append-nil, append_assoc, length-append, length-take-le, map-append, take-append-drop, take_more, Stmt, Database, bare, bares}
use Rattle.std.proofs.lemmas.Bool.{le-ltb, lt-ltb, ltb-false, ltb-true}
use Rattle.verify.specs.Metered.{Metered, is_over, is_past, metered, with_work}
use Rattle.library.specs.Work.{Counts, counts_from, first_past, past_limit, proof_counts, statement_counts, statement_work, text_work, theorem_work, total}
use Rattle.library.specs.Laws.{WorksAddUp}

-- ---- sums

pub total-append : (a b : Counts) → total (a ++ b) ≡ total a + total b
total-append [] b = omega arith
total-append (c ∷ a) b = let e = total-append a b in omega (arith, e)

-- ---- limits

within-none : (N : ℕ) (a : Counts) → total a ≤ N → first_past N a ≡ None
within-none N [] h = refl
within-none N (c ∷ a) h = rw (le-ltb N c.1 (omega (arith, h))) (within-none (N - c.1) a (omega (arith, h)))

past-next : (N : ℕ) (a : Counts) (n w : ℕ) → total a ≤ N → N < total a + w → first_past N (a ++ (n, w) ∷ []) ≡ Some n
past-next N [] n w h past = rw (lt-ltb N w (omega (arith, past))) refl
past-next N (c ∷ a) n w h past =
    rw (le-ltb N c.1 (omega (arith, h))) (past-next (N - c.1) a n w (omega (arith, h)) (omega (arith, h, past)))

past-longer : (N : ℕ) (a b : Counts) (n : ℕ) → first_past N a ≡ Some n → first_past N (a ++ b) ≡ Some n
past-longer N [] b n h = absurd (let e = h in cc)
past-longer N (c ∷ a) b n h = by (nat_lt N c.1) (past-longer (N - c.1) a b n) h
  where
    by : (t : Bool) → (first_past (N - c.1) a ≡ Some n → first_past (N - c.1) (a ++ b) ≡ Some n)
        → (if t then Some c.0 else first_past (N - c.1) a) ≡ Some n → (if t then Some c.0 else first_past (N - c.1) (a ++ b)) ≡ Some n
    by true rest e = e
    by false rest e = rest e

-- a limit that is passed by the first counts is passed with the same statement by all
pub past_limit-longer : (limit : Option ℕ) (a b : Counts) (n : ℕ) → past_limit limit a ≡ Some n → past_limit limit (a ++ b) ≡ Some n
past_limit-longer None a b n h = absurd (let e = h in cc)
past_limit-longer (Some N) a b n h = past-longer N a b n h

-- a count and what is counted after it
pub with_work-add : (m : Metered) (a b c : ℕ) → a + b ≡ c → with_work (with_work m a) b ≡ with_work m c
with_work-add m a b c sum = let same : m.count + a + b ≡ m.count + c = omega (arith, sum) in ap (λ n. metered n m.limit) same

-- counts that take a meter to a count within its limit are nowhere past it
pub metered-none : (m : Metered) (a b : Counts) → m.count ≡ total a → is_past (with_work m (total b)) ≡ false → past_limit m.limit (a ++ b) ≡ None
metered-none m a b e h = by m.limit h
  where
    by : (limit : Option ℕ) → is_over limit (m.count + total b) ≡ false → past_limit limit (a ++ b) ≡ None
    by None h = refl
    by (Some N) h = within-none N (a ++ b) (let low = ltb-false N (m.count + total b) h in omega (arith, low, e, total-append a b))

-- counts with the last of which a meter is past its limit pass it there
pub metered-past : (m : Metered) (a b : Counts) (n w : ℕ) → m.count ≡ total a → is_past (with_work m (total b)) ≡ false → is_past (with_work m (total b + w)) ≡ true
    → past_limit m.limit (a ++ (b ++ (n, w) ∷ [])) ≡ Some n
metered-past m a b n w e h p = rw (← append_assoc a b ((n, w) ∷ [])) (by m.limit h p)
  where
    by : (limit : Option ℕ) → is_over limit (m.count + total b) ≡ false → is_over limit (m.count + (total b + w)) ≡ true → past_limit limit ((a ++ b) ++ (n, w) ∷ []) ≡ Some n
    by None h p = absurd (let f = p in cc)
    by (Some N) h p =
        let low = ltb-false N (m.count + total b) h in
        let high = ltb-true N (m.count + (total b + w)) p in
        let all = total-append a b in
        past-next N (a ++ b) n w (omega (arith, low, e, all)) (omega (arith, high, e, all))

-- ---- counts of lists

pub take-none : {A : Type 0} (l : List A) → take 0 l ≡ []
take-none [] = refl
take-none (x ∷ l) = refl

pub counts_from-append : (work : Database → Stmt → ℕ) (n : ℕ) (S T U : Database)
    → counts_from work n S (T ++ U) ≡ counts_from work n S T ++ counts_from work (n + length T) (S ++ bares T) U
counts_from-append work n S [] U =
    let same : n + 0 ≡ n = omega arith in
    sym (ap (λ k. counts_from work k (S ++ []) U) same ∙ ap (λ R. counts_from work n R U) (append-nil S))
counts_from-append work n S (s ∷ T) U =
    let same : n + 1 + length T ≡ n + suc (length T) = omega arith in
    ap (λ cs. (n, work S s) ∷ cs)
    (counts_from-append work (n + 1) (S ++ bare s ∷ []) T U
    ∙ ap (λ cs. counts_from work (n + 1) (S ++ bare s ∷ []) T ++ cs)
    (ap (λ k. counts_from work k ((S ++ bare s ∷ []) ++ bares T) U) same
    ∙ ap (λ R. counts_from work (n + suc (length T)) R U) (append_assoc S (bare s ∷ []) (bares T))))

-- what one more of the first statements counts
pub counts-more : (work : Database → Stmt → ℕ) (S T : Database) (i : ℕ) (d : Stmt) → i < length T
    → counts_from work 1 S (take (i + 1) T) ≡ counts_from work 1 S (take i T) ++ (i + 1, work (S ++ bares (take i T)) (get_or T i d)) ∷ []
counts-more work S T i d less =
    let count = length-take-le i T (omega (arith, less)) in
    let number : 1 + length (take i T) ≡ i + 1 = omega (arith, count) in
    ap (counts_from work 1 S) (take_more T i d less)
    ∙ (counts_from-append work 1 S (take i T) (get_or T i d ∷ [])
    ∙ ap (λ k. counts_from work 1 S (take i T) ++ (k, work (S ++ bares (take i T)) (get_or T i d)) ∷ []) number)

pub total-more : (work : Database → Stmt → ℕ) (S T : Database) (i : ℕ) (d : Stmt) → i < length T
    → total (counts_from work 1 S (take (i + 1) T)) ≡ total (counts_from work 1 S (take i T)) + work (S ++ bares (take i T)) (get_or T i d)
total-more work S T i d less =
    let more = ap total (counts-more work S T i d less) in
    let parts = total-append (counts_from work 1 S (take i T)) ((i + 1, work (S ++ bares (take i T)) (get_or T i d)) ∷ []) in
    omega (arith, more, parts)

-- the first of the statements count no more than all of them
pub counts-front : (work : Database → Stmt → ℕ) (S T : Database) (i : ℕ)
    → (rest : Counts) × (counts_from work 1 S T ≡ counts_from work 1 S (take i T) ++ rest)
counts-front work S T i = (
  counts_from work (1 + length (take i T)) (S ++ bares (take i T)) (drop i T),
  ap (counts_from work 1 S) (sym (take-append-drop i T)) ∙ counts_from-append work 1 S (take i T) (drop i T),
)

-- ---- texts

total-number : (work : Database → Stmt → ℕ) (m n : ℕ) (S T : Database) → total (counts_from work m S T) ≡ total (counts_from work n S T)
total-number work m n S [] = refl
total-number work m n S (s ∷ T) = ap (λ k. work S s + k) (total-number work (m + 1) (n + 1) (S ++ bare s ∷ []) T)

total_from-append : (work : Database → Stmt → ℕ) (L T U : Database)
    → total (counts_from work 1 (bares L) (T ++ U)) ≡ total (counts_from work 1 (bares L) T) + total (counts_from work 1 (bares (L ++ T)) U)
total_from-append work L T U =
    let whole = ap total (counts_from-append work 1 (bares L) T U) in
    let parts = total-append (counts_from work 1 (bares L) T) (counts_from work (1 + length T) (bares L ++ bares T) U) in
    let back = total-number work (1 + length T) 1 (bares L ++ bares T) U in
    let same = ap (λ R. total (counts_from work 1 R U)) (map-append bare L T) in
    omega (arith, whole, parts, back, same)

pub text_work-parts : (L T : Database) (text : List ℕ) → text_work L text T ≡ length text + total (statement_counts L T) + total (proof_counts L T)
text_work-parts L T text =
    let parts = total-append ((0, length text) ∷ statement_counts L T) (proof_counts L T) in
    omega (arith, parts)

pub works_add_up : WorksAddUp
works_add_up L T U text more =
    let whole = text_work-parts L (T ++ U) (text ++ more) in
    let front = text_work-parts L T text in
    let back = text_work-parts (L ++ T) U more in
    let bytes = length-append text more in
    let statements = total_from-append statement_work L T U in
    let proofs = total_from-append theorem_work L T U in
    omega (arith, whole, front, back, bytes, statements, proofs)
