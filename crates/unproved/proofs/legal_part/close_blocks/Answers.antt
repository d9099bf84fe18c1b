use Rattle.std.proofs.Common.{subst, sym}
use Rattle.unproved.proofs.LegalPartLemmas.{shaped-closes}
use Rattle.unproved.proofs.Words.{AreShaped}
use Rattle.unproved.proofs.legal_part.close_blocks.Goals as goal

pub returns-clause-shaped : goal.returns-clause-shaped
returns-clause-shaped c = λ are. subst AreShaped (sym c.loop-block.invariant) (shaped-closes c.args.statements.now.items c.loop-block._block are)
