use Rattle.std.proofs.Common.{sym, arith}
use Rattle.mm_lex.proofs.SpacedPrefixLemmas.{prefix_one}
use Rattle.mm_lex.proofs.spaced_prefix.count_prefix_one_by_one.Goals as goal

pub loop-at-preserved : goal.loop-at-preserved
loop-at-preserved c =
    (omega (arith, c.loop-at-test.true), prefix_one c.args.text.now c.loop-at.at c.loop-at-test.true c.loop-at.invariant.1 (sym c.if-is_end.ensures))
