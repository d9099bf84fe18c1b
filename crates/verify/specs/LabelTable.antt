-- The meanings of the labels of a proof.
-- Metamath, 4.2.6: a proof cites active hypotheses and earlier assertions by their labels.
-- The code looks each label up once for a proof; mandatory hypotheses are not looked up, but listed
-- by their positions.
use Rattle.std.specs.Prelude.{◌≡◌, ◌==◌, ℕ, ◌<◌, Bool, false, List, [], length, get_or}
use Rattle.verify.specs.Words.{list_any, Name, Stmt, Database, Carries, IsHypothesis}
use Rattle.verify.specs.declared.label_table.LabelEntry.{LabelEntry}
use Rattle.verify.specs.declared.label_table.LabelEntry.TheVariants.{Hypothesis, Assertion, Nothing}
use Rattle.verify.specs.Spells.{IsCitable}

-- the meaning of a label at `at`: an active hypothesis, an earlier assertion, or nothing that may
-- be cited there
abbrev pub IsEntry : Database → ℕ → Name → LabelEntry → Type 0
IsEntry S at label (Hypothesis i) = (s : Stmt) × Carries S i s label × IsHypothesis S at i s
IsEntry S at label (Assertion a) = (s : Stmt) × Carries S a s label × IsCitable S at a s
IsEntry S at label Nothing = (i : ℕ) (s : Stmt) → Carries S i s label → (IsHypothesis S at i s → ⊥) × (IsCitable S at i s → ⊥)

-- the table has the meaning of each label
pub record AreEntries (S : Database) (at : ℕ) (labels : List Name) (table : List LabelEntry) : Type 0 where
  pub count : length table ≡ length labels
  pub each : (k : ℕ) → k < length labels → IsEntry S at (get_or labels k []) (get_or table k Nothing)

-- the entry is a hypothesis at one of these positions
abbrev pub is_hypothesis_among : List ℕ → LabelEntry → Bool
is_hypothesis_among positions (Hypothesis i) = list_any (λ p. p == i) positions
is_hypothesis_among positions other = false
