use Rattle.rule_violation.proofs.Words.{◌∙◌, sym, ap, ◌||◌, has_name}
use Rattle.rule_violation.proofs.MarksLemmas.{coded_first}
use Rattle.rule_violation.proofs.marks.name_table.Goals as goal

pub loop-word-preserved : goal.loop-word-preserved
loop-word-preserved c = λ x h.
    coded_first c.loop-word.names c.find_or_add.new.self c.next.new.self x c.in-Some.word.now c.in_ok-find_or_add.field-0 c.in_ok-find_or_add.ensures.name c.in_ok-find_or_add.ensures.known c.in_ok-find_or_add.ensures.fresh
    (ap (λ ws. has_name x c.loop-word.names || has_name x ws) (sym c.in-Some.ensures.steps) ∙ c.loop-word.invariant x h)
