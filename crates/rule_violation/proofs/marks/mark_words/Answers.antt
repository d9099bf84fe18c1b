use Rattle.rule_violation.proofs.Words.{◌∙◌, ◌||◌, sym, ap, refl, name_eq, has_name, marked}
use Rattle.rule_violation.proofs.MarksLemmas.{marked-both, marked-none}
use Rattle.rule_violation.proofs.marks.mark_words.Goals as goal

pub loop-word-preserved : goal.loop-word-preserved
loop-word-preserved c =
    let v = c.args.mark in let names = c.args.names.now in let w = c.in-Some.word.now in let rest = c.next.new.self in
    ap (marked (λ x. has_name x rest) v names) c.mark_word.ensures
    ∙ (marked-both (λ x. has_name x rest) (λ x. name_eq x w) (λ x. name_eq x w || has_name x rest) v (λ x. refl) names c.loop-word.marks
    ∙ (ap (λ ws. marked (λ x. has_name x ws) v names c.loop-word.marks) (sym c.in-Some.ensures.steps) ∙ c.loop-word.invariant))

pub returns : goal.returns
returns c =
    let v = c.args.mark in let names = c.args.names.now in
    sym (marked-none (λ x. has_name x c.loop-word.word-iterator) v (λ x. ap (has_name x) c.in-None.ensures.steps.0) names c.loop-word.marks) ∙ c.loop-word.invariant
