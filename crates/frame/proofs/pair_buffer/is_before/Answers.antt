use Rattle.frame.proofs.Words.{sym}
use Rattle.frame.proofs.PairListLemmas.{index-tells, take-has}
use Rattle.frame.proofs.pair_buffer.is_before.Goals as goal

pub returns-in-Some : goal.returns-in-Some
returns-in-Some c = sym (index-tells c.args.variables.now c.args.index c.in-Some.place c.args.symbol c.requires c.in-Some.ensures.found)

pub returns-in-None : goal.returns-in-None
returns-in-None c = sym (take-has c.args.variables.now c.args.index c.args.symbol (sym c.in-None.ensures.member))
