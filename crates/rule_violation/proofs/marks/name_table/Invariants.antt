use Rattle.rule_violation.proofs.Words.{◌≡◌, ◌||◌, true, Name, has_name}
use Rattle.rule_violation.proofs.marks.name_table.Given as goal

abbrev pub invariant-loop-word : goal.invariant-loop-word
invariant-loop-word l = (x : Name) → has_name x l.words ≡ true → (has_name x l.names || has_name x l.word-iterator) ≡ true
