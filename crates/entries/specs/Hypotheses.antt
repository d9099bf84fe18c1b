-- A hypothesis as one number: a `$f` by its variable, a `$e` by its position.
-- Source: Metamath, 4.2.6 (a citation reads the variable of a `$f`, and the expression of a `$e`).
-- The code keeps the numbers in one buffer with the other numbers of the assertion.
use Rattle.std.specs.Prelude.{ℕ, ◌-◌, nat_lt, if◌then◌else◌}
use Rattle.entries.specs.declared.assertion_view.Hypothesis.{Hypothesis}
use Rattle.entries.specs.declared.assertion_view.Hypothesis.TheVariants.{Float, Essential}
use Rattle.entries.specs.declared.assertion_view.TheConstants.{LEAST_ESSENTIAL}

-- the hypothesis that a number encodes; the numbers of `$e` are greater than those of `$f`
abbrev pub decoded_hypothesis : ℕ → Hypothesis
decoded_hypothesis n = if nat_lt n LEAST_ESSENTIAL then Float n else Essential (n - LEAST_ESSENTIAL)
