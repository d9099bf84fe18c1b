use Rattle.verify.proofs.Words.{length, ◌∙◌, ap}
use Rattle.verify.proofs.PairCountLemmas.{count-kept, count-made}
use Rattle.verify.proofs.disjointness.begin_lists.Goals as goal

pub returns-then-cited-clause-count : goal.returns-then-cited-clause-count
returns-then-cited-clause-count c = c.len.ensures ∙ count-kept c.args.cited.now c.requires.0 c.requires.1 c.if-cited.true

pub returns-clause-count : goal.returns-clause-count
returns-clause-count c = c.len-2.ensures ∙ (ap length c.in_ok-begin.ensures ∙ count-made c.args.cited.now c.if-cited.false)
