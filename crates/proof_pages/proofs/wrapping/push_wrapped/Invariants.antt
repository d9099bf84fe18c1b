use Rattle.std.proofs.Common.{◌≡◌, ◌-◌, ◌≤◌, length}
use Rattle.proof_pages.proofs.WrappedLemmas.{IsWrapped}
use Rattle.proof_pages.proofs.wrapping.push_wrapped.Given as goal

abbrev pub invariant-loop-span : goal.invariant-loop-span
invariant-loop-span l = record { within : l.at ≤ length l.text; wrapped : IsWrapped l.text l.at l.column l.initial.lines.items l.lines.items }

abbrev pub decreases-loop-span : goal.decreases-loop-span
decreases-loop-span l = length l.text - l.at
