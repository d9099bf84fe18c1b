use Rattle.scope.proofs.OrderedLemmas.{twice-at}
use Rattle.scope.proofs.legal.are_neighbours_distinct.Goals as goal

pub returns-then-eq-clause-no : goal.returns-then-eq-clause-no
returns-then-eq-clause-no c = λ same. twice-at c.args.words.now c.loop-i.i _ c.loop-i.auto.i c.loop-i-test.true c.if-eq.ensures
