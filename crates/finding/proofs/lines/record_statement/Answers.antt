use Rattle.finding.proofs.LineWords.{sym, subst, OnOk, AreRecorded}
use Rattle.finding.proofs.lines.record_statement.Goals as goal

pub returns-in-WithHypotheses : goal.returns-in-WithHypotheses
returns-in-WithHypotheses c = λ S n next stands recorded.
    subst (λ query. OnOk c.record_essential.result (AreRecorded query S c.args.at c.record_essential.new.essentials.items)) (sym c.in-WithHypotheses.is)
    (c.record_essential.ensures S n next stands (subst (λ query. AreRecorded query S n c.args.essentials.now.items) c.in-WithHypotheses.is recorded))

pub returns-in-Pattern : goal.returns-in-Pattern
returns-in-Pattern c = λ S n next stands recorded. subst (λ query. AreRecorded query S c.args.at c.args.essentials.now.items) (sym c.in-Pattern.is) tt

pub returns-in-Words : goal.returns-in-Words
returns-in-Words c = λ S n next stands recorded. subst (λ query. AreRecorded query S c.args.at c.args.essentials.now.items) (sym c.in-Words.is) tt

pub returns-in-Labels : goal.returns-in-Labels
returns-in-Labels c = λ S n next stands recorded. subst (λ query. AreRecorded query S c.args.at c.args.essentials.now.items) (sym c.in-Labels.is) tt
