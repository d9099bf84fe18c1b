-- The `$p` of those that are left out so far are counted.
use Rattle.std.proofs.Common.{◌≡◌, take}
use Rattle.std.specs.Prelude.{count_by}
use Rattle.scope.specs.Active.{is_provable}
use Rattle.unproved.specs.declared.legal_part.LeftOut.{LeftOut}
use Rattle.questions.proofs.all_faults.count_left_proofs.Given as goal

abbrev pub invariant-loop-left : goal.invariant-loop-left
invariant-loop-left l = l.count ≡ count_by (λ (left : LeftOut). is_provable left.statement) (take l.left-index l.fn.left_out)
