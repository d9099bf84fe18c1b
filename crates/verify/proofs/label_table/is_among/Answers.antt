use Rattle.verify.proofs.Words.{sym, ◌∙◌, ap, arith, is_hypothesis_among, searched}
use Rattle.verify.specs.declared.label_table.LabelEntry.TheVariants.{Hypothesis}
use Rattle.verify.proofs.LabelTableLemmas.{found-is, none-is}
use Rattle.verify.proofs.label_table.is_among.Goals as goal

pub returns-in-Ok : goal.returns-in-Ok
returns-in-Ok c =
    c.is_ok.ensures.value
    ∙ (found-is c.args.hypotheses.now c.in-Ok.position c.binary_search.result
    (searched c.args.hypotheses.now c.in-Ok.position c.binary_search.result c.binary_search.ensures.position (λ i j h less. c.requires i j 0 h less))
    ∙ ap (is_hypothesis_among c.args.hypotheses.now) (ap Hypothesis c.in-Ok.ensures.1 ∙ sym c.in-Hypothesis.is))

pub returns-in-Err : goal.returns-in-Err
returns-in-Err c =
    sym (none-is c.args.hypotheses.now c.in-Hypothesis.position (λ k less e. c.in-Err.ensures (let fit = c.type_inv.hypotheses k in omega (arith, fit, e))))
    ∙ ap (is_hypothesis_among c.args.hypotheses.now) (sym c.in-Hypothesis.is)
