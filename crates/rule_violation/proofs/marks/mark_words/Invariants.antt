use Rattle.rule_violation.proofs.Words.{◌≡◌, has_name, marked}
use Rattle.rule_violation.proofs.marks.mark_words.Given as goal

abbrev pub invariant-loop-word : goal.invariant-loop-word
invariant-loop-word l = marked (λ x. has_name x l.word-iterator) l.mark l.names l.marks ≡ marked (λ x. has_name x l.words) l.mark l.names l.initial.marks
