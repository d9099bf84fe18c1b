use Rattle.subst.proofs.AlikeLemmas.{all_same, first_same}
use Rattle.subst.proofs.matching.common_prefix_len.Goals as goal

pub returns-then-mask-eq0 : goal.returns-then-mask-eq0
returns-then-mask-eq0 c = all_same c.args.left.now c.args.right.now c.requires.left c.requires.right c.if-mask-eq0.true

pub returns-else-mask-eq0 : goal.returns-else-mask-eq0
returns-else-mask-eq0 c = first_same c.args.left.now c.args.right.now c.requires.left c.requires.right c.if-mask-eq0.false
