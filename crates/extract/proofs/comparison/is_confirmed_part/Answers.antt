use Rattle.std.proofs.Common.{map}
use Rattle.extract.proofs.ParallelLemmas.{walk-start}
use Rattle.extract.proofs.comparison.is_confirmed_part.Goals as goal

pub walk_to_end-requires-clause-begins : goal.walk_to_end-requires-clause-begins
walk_to_end-requires-clause-begins c = walk-start c.args.whole.now c.args.part.now (map (λ label. label.now) c.args.labels.now) _ _ c.new.ensures.statements c.new-2.ensures.statements
