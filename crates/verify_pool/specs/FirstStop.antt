-- Where the judging of the jobs 0 to `count` - 1 ends: at the first that is not right or too costly,
-- if one is.
-- Source: this project; the Metamath book has no parallel check and no limit.
-- The code deals the jobs out to workers; here they are judged and counted in order.
use Rattle.std.specs.Prelude.{◌≡◌, ℕ, zero, suc, ◌+◌, ◌<◌, false, IsTrue}
use Rattle.verify.specs.Metered.{Metered, is_past, with_work}
use Rattle.verify_pool.specs.declared.outcome.Outcome.{Outcome}
use Rattle.verify_pool.specs.declared.outcome.Outcome.TheVariants.{AllRight, Wrong, TooCostly}

-- what the jobs before k count
abbrev pub work_to : (ℕ → ℕ) → ℕ → ℕ
work_to works zero = 0
work_to works (suc k) = work_to works k + works k

-- the meter, when the jobs before k are counted too
abbrev pub metered_to : (ℕ → ℕ) → ℕ → Metered → Metered
metered_to works k m = with_work m (work_to works k)

-- each job before k is right, and when these are counted the meter is not past its limit
pub record IsRightTo (right : ℕ → Type 0) (works : ℕ → ℕ) (k : ℕ) (m : Metered) : Type 0 where
  pub each : (i : ℕ) → i < k → right i
  pub within : is_past (metered_to works k m) ≡ false

-- job k is the first that is not right, and it is not too costly
pub record IsFirstWrong (right : ℕ → Type 0) (works : ℕ → ℕ) (count k : ℕ) (m : Metered) : Type 0 where
  pub stands : k < count
  pub before : IsRightTo right works k m
  pub wrong : ¬ right k
  pub within : is_past (metered_to works (suc k) m) ≡ false

-- job k is the first with which the meter is past its limit, and each before it is right; whether
-- it is right itself is not said
pub record IsFirstTooCostly (right : ℕ → Type 0) (works : ℕ → ℕ) (count k : ℕ) (m : Metered) : Type 0 where
  pub stands : k < count
  pub before : IsRightTo right works k m
  pub past : IsTrue (is_past (metered_to works (suc k) m))

-- the jobs take the meter m to m', and this is the outcome
abbrev pub IsFirstStop : (ℕ → Type 0) → (ℕ → ℕ) → ℕ → Metered → Metered → Outcome → Type 0
IsFirstStop right works count m m' AllRight = IsRightTo right works count m × (m' ≡ metered_to works count m)
IsFirstStop right works count m m' (Wrong k) = IsFirstWrong right works count k m × (m' ≡ metered_to works (suc k) m)
IsFirstStop right works count m m' (TooCostly k) = IsFirstTooCostly right works count k m
