use Rattle.finding.proofs.PatternPrelude.{map, ap, arith, word}
use Rattle.finding.proofs.words.next_word.Goals as goal

pub returns-in-Some-clause-first : goal.returns-in-Some-clause-first
returns-in-Some-clause-first c = ap (map (word c.args.text.now)) c.in-Some.ensures.run

pub returns-in-None-clause-first : goal.returns-in-None-clause-first
returns-in-None-clause-first c = ap (map (word c.args.text.now)) c.in-None.ensures.run

pub returns-in-Some-clause-later : goal.returns-in-Some-clause-later
returns-in-Some-clause-later c = let some = c.in-Some.ensures.is_run.some in omega (arith, c.in-Some.ensures.later, some)

pub returns-in-Some-clause-within : goal.returns-in-Some-clause-within
returns-in-Some-clause-within c = c.in-Some.ensures.is_run.within
