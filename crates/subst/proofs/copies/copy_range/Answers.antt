use Rattle.std.proofs.Common.{arith}
use Rattle.subst.proofs.CopyLemmas.{place-written, place-lacks, written-kept}
use Rattle.subst.proofs.copies.copy_range.Goals as goal

pub returns-then-at-len-clause-none : goal.returns-then-at-len-clause-none
returns-then-at-len-clause-none c = place-lacks c.args.symbols.now c.args.at c.args.last c.args.range c.requires.range.0 c.requires.range.1 c.requires.inside (omega arith)

pub returns-clause-some : goal.returns-clause-some
returns-clause-some c =
    place-written c.args.symbols.now _ c.args.at _ c.args.range c.requires.range.0 c.requires.range.1 c.requires.inside (omega arith) (omega arith) c.copy_run.ensures.copied

pub returns-clause-kept : goal.returns-clause-kept
returns-clause-kept c =
    written-kept c.args.symbols.now _ _ c.args.at _ c.requires.inside
    (place-written c.args.symbols.now _ c.args.at _ c.args.range c.requires.range.0 c.requires.range.1 c.requires.inside (omega arith) (omega arith) c.copy_run.ensures.copied)
