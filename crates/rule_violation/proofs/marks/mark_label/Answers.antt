use Rattle.rule_violation.proofs.Words.{◌≡◌, false, sym, rules, label_of, has_label, Name}
use Rattle.rule_violation.proofs.MarksLemmas.{marked-none}
use Rattle.rule_violation.proofs.marks.mark_label.Goals as goal

pub returns-in_default : goal.returns-in_default
returns-in_default c =
    let none : (x : Name) → has_label x (label_of c.args.stmt.now) ≡ false = λ x. search rules in
    sym (marked-none (λ x. has_label x (label_of c.args.stmt.now)) c.args.mark none c.args.names.now c.args.marks.now)
