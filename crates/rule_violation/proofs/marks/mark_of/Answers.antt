use Rattle.rule_violation.proofs.Words.{sym, ◌∙◌, true≢false, unknown-number}
use Rattle.rule_violation.proofs.MarksLemmas.{mark_is}
use Rattle.rule_violation.proofs.marks.mark_of.Goals as goal

pub returns-in-Some : goal.returns-in-Some
returns-in-Some c t e = mark_is t c.args.names.now c.args.marks.now c.args.name.now c.in-Some.code (sym c.in-Some.ensures.code) e

pub returns-in-None : goal.returns-in-None
returns-in-None c t e = absurd (true≢false (sym c.requires.named ∙ unknown-number c.args.names.now c.args.name.now c.in-None.ensures.code))
