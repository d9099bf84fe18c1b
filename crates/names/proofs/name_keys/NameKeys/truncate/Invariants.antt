use Rattle.names.proofs.Words.{◌≡◌, ℕ, ◌<◌, name_at, code_in_overflow}
use Rattle.names.proofs.name_keys.NameKeys.truncate.Given as goal

abbrev pub invariant-loop-code : goal.invariant-loop-code
invariant-loop-code l =
    (l.self.keys ≡ l.initial.self.keys) × ((k : ℕ) → k < l.len → code_in_overflow l.self.overflow (name_at l.name_list k) ≡ code_in_overflow l.initial.self.overflow (name_at l.name_list k))
