use Rattle.rule_violation.proofs.Words.{◌∙◌, sym}
use Rattle.rule_violation.proofs.ViolationLemmas.{first_is_not}
use Rattle.rule_violation.proofs.by_rule.first_not_constant.Goals as goal

pub returns-in-Some : goal.returns-in-Some
returns-in-Some c =
    first_is_not c.args.earlier.now c.in-Some.first.now c.args.names.now c.next.new.self c.not_constant.result (sym c.iter.ensures.words ∙ c.in-Some.ensures.steps) c.not_constant.ensures
