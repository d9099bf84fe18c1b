-- A meter of work: what was counted, and the limit.
-- Source: this project's profile (docs/COSTS.md).
-- The code counts while it runs over the items of a proof, and stops where the limit is passed.
use Rattle.std.specs.Prelude.{ℕ, ◌+◌, ◌-◌, Bool, Option, option_map}
pub use Rattle.subst.specs.ReadImages.{is_over}

-- the count; and the greatest count that is not past the limit, or `None` if there is no limit
pub record Metered : Type 0 where
  pub count : ℕ
  pub limit : Option ℕ

abbrev pub metered : ℕ → Option ℕ → Metered
metered count limit = record { count = count; limit = limit }

-- the meter has counted this much more
abbrev pub with_work : Metered → ℕ → Metered
with_work m work = record { count = m.count + work; limit = m.limit }

-- the count of the meter is past its limit
abbrev pub is_past : Metered → Bool
is_past m = is_over m.limit m.count

-- how much more may be counted until the limit is passed, if there is one
abbrev pub left_of : Metered → Option ℕ
left_of m = option_map (λ limit. limit - m.count) m.limit
