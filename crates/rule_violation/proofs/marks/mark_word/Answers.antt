use Rattle.rule_violation.proofs.Words.{sym, unknown-number}
use Rattle.rule_violation.proofs.MarksLemmas.{marked-one, marked-absent}
use Rattle.rule_violation.proofs.marks.mark_word.Goals as goal

pub returns-in-Some : goal.returns-in-Some
returns-in-Some c = marked-one c.args.word.now c.args.mark c.args.names.now c.args.marks.now c.in-Some.code c.in-Some.ensures.distinct (sym c.in-Some.ensures.code) c.requires

pub returns-in-None : goal.returns-in-None
returns-in-None c = sym (marked-absent c.args.word.now c.args.mark c.args.names.now c.args.marks.now (unknown-number c.args.names.now c.args.word.now c.in-None.ensures.code))
