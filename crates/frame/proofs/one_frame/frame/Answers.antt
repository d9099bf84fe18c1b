use Rattle.frame.proofs.Words.{◌∙◌, ap, AreMandatory, mandatory_positions, groups_among}
use Rattle.frame.proofs.OneFrameLemmas.{required-hypotheses, groups-mandatory, same-parts}
use Rattle.frame.proofs.one_frame.frame.Goals as goal

pub returns : goal.returns
returns c =
    let S = c.args.scope.now.statements in
    let s = c.args.stmt.now in
    let used = c.in_ok-used.used in
    let m : AreMandatory S s used = c.in_ok-used.ensures in
    same-parts (c.in_ok-hypotheses.ensures ∙ (ap (mandatory_positions used) c.frame_statements.ensures ∙ required-hypotheses S s used m))
    (c.in_ok-groups.ensures ∙ (ap (groups_among used) c.frame_statements-2.ensures ∙ groups-mandatory S s used m))
    (c.in_ok-conclusion.ensures ∙ c.expression.ensures)
