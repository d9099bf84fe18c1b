-- The first `$e` or `$d` that statements leave active, found from their end.
use Rattle.library.proofs.Words.{◌≡◌, ℕ, zero, suc, ◌+◌, ◌-◌, ◌≤◌, Bool, true, false, ◌&&◌, nat_le, nat_tests, [], ◌∷◌, Some, Option, if◌then◌else◌, refl, sym, ◌∙◌, arith, Stmt, Database, stays_open}
use Rattle.mm_read.specs.declared.stmt.Stmt.TheVariants.{Close, Open}
use Rattle.library.specs.Causes.{first_left, is_condition}
use Rattle.library.specs.Judging.{closed_from}

-- how many blocks that are open before the statements they close
abbrev pub closed_by : Database → ℕ
closed_by [] = 0
closed_by (s ∷ T) = closed_from s (closed_by T)

stays-closed : (k : ℕ) (T : Database) → stays_open k T ≡ nat_le (closed_by T) k
stays-closed k [] = grind (arith, nat_tests)
stays-closed k (Open ∷ T) = stays-closed (suc k) T ∙ fewer (closed_by T) k
  where
    fewer : (n k : ℕ) → nat_le n (suc k) ≡ nat_le (n - 1) k
    fewer n k = grind (arith, nat_tests)
stays-closed zero (Close ∷ T) = more (closed_by T)
  where
    more : (n : ℕ) → false ≡ nat_le (n + 1) 0
    more n = grind (arith, nat_tests)
stays-closed (suc k) (Close ∷ T) = stays-closed k T ∙ more (closed_by T) k
  where
    more : (n k : ℕ) → nat_le n k ≡ nat_le (n + 1) (suc k)
    more n k = grind (arith, nat_tests)
stays-closed k (s ∷ T) = stays-closed k T

-- one statement more
left-here : (b c : Bool) (n : ℕ) (later : Option ℕ) → b ≡ true → c ≡ true → (if b && c then Some n else later) ≡ Some n
left-here true true n later p q = refl
left-here true false n later p q = absurd (let e = q in cc)
left-here false c n later p q = absurd (let e = p in cc)

pub first_left-here : (n : ℕ) (s : Stmt) (T : Database) → is_condition s ≡ true → closed_by T ≡ 0 → first_left n (s ∷ T) ≡ Some n
first_left-here n s T condition none =
    left-here (is_condition s) (stays_open 0 T) n (first_left (n + 1) T) condition (stays-closed 0 T ∙ low (closed_by T) none)
  where
    low : (k : ℕ) → k ≡ 0 → nat_le k 0 ≡ true
    low k e = grind (arith, nat_tests)

left-later : (b c : Bool) (n : ℕ) (later : Option ℕ) → (b ≡ true → c ≡ true → ⊥) → (if b && c then Some n else later) ≡ later
left-later true true n later h = absurd (h refl refl)
left-later true false n later h = refl
left-later false c n later h = refl

pub first_left-later : (n : ℕ) (s : Stmt) (T : Database) → (is_condition s ≡ true → closed_by T ≡ 0 → ⊥) → first_left n (s ∷ T) ≡ first_left (n + 1) T
first_left-later n s T h =
    left-later (is_condition s) (stays_open 0 T) n (first_left (n + 1) T) (λ p q. h p (low (closed_by T) (sym (stays-closed 0 T) ∙ q)))
  where
    low : (k : ℕ) → nat_le k 0 ≡ true → k ≡ 0
    low k e = grind (arith, nat_tests)

-- one statement closes at most one block
pub closed_from-few : (s : Stmt) (closed : ℕ) → closed_from s closed ≤ closed + 1
closed_from-few Open closed = omega arith
closed_from-few Close closed = omega arith
closed_from-few s closed = omega arith
