use Rattle.frame.proofs.Words.{◌≡◌, ◌+◌, ◌-◌, length, take, statements_of}
use Rattle.std.specs.List.{sum_by}
use Rattle.frame.specs.Stored.EntrySizes.{listed_size}
use Rattle.frame.proofs.sizes.size_of_assertion.Given as goal

abbrev pub invariant-loop-position : goal.invariant-loop-position
invariant-loop-position l =
    l.size ≡ length l.hypotheses + length l.codes + sum_by (listed_size l.storage (take (l.at - 1) (statements_of l.storage))) (take l.position-index l.hypotheses)
