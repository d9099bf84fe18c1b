use Rattle.rule_violation.proofs.Words.{◌∙◌, sym, ap, refl, ◌||◌, has_name, label_of, has_label, constants, variables, marked, has_name_in}
use Rattle.rule_violation.proofs.MarksLemmas.{marked-both, marked-three}
use Rattle.rule_violation.proofs.marks.mark_stmt.Goals as goal

pub returns-in-LabelOrSymbol : goal.returns-in-LabelOrSymbol
returns-in-LabelOrSymbol c =
    let s = c.args.stmt.now in let v = c.args.mark in let names = c.args.names.now in let marks = c.args.marks.now in
    c.mark_variables.ensures
    ∙ (ap (marked (λ x. has_name x (variables s)) v names) (c.mark_constants.ensures ∙ ap (marked (λ x. has_name x (constants s)) v names) c.mark_label.ensures)
    ∙ (marked-three (λ x. has_label x (label_of s)) (λ x. has_name x (constants s)) (λ x. has_name x (variables s)) v names marks
    ∙ ap (λ p. marked (λ x. has_name_in p x s) v names marks) (sym c.in-LabelOrSymbol.is)))

pub returns-in-LabelOrConstant : goal.returns-in-LabelOrConstant
returns-in-LabelOrConstant c =
    let s = c.args.stmt.now in let v = c.args.mark in let names = c.args.names.now in let marks = c.args.marks.now in
    c.mark_constants-in-LabelOrConstant.ensures
    ∙ (ap (marked (λ x. has_name x (constants s)) v names) c.mark_label-in-LabelOrConstant.ensures
    ∙ (marked-both (λ x. has_name x (constants s)) (λ x. has_label x (label_of s)) (λ x. has_label x (label_of s) || has_name x (constants s)) v (λ x. refl) names marks
    ∙ ap (λ p. marked (λ x. has_name_in p x s) v names marks) (sym c.in-LabelOrConstant.is)))
