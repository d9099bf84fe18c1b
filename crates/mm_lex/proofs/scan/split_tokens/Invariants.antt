use Rattle.std.proofs.Common.{◌-◌, length}
use Rattle.mm_lex.proofs.Progress.{SplitUpTo}
use Rattle.mm_lex.proofs.scan.split_tokens.Given as goal

abbrev pub invariant-loop-span : goal.invariant-loop-span
invariant-loop-span l = SplitUpTo l.text l.spans.items l.allocation_failed l.at

abbrev pub decreases-loop-span : goal.decreases-loop-span
decreases-loop-span l = length l.text - l.at
