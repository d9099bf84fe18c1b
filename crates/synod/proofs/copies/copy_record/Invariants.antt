use Rattle.synod.proofs.Words.{◌≡◌, take}
use Rattle.slots.specs.FiniteMap.{trimmed}
use Rattle.synod.proofs.copies.copy_record.Given as goal

-- the copy has the entries of the slots so far
abbrev pub invariant-loop-slot : goal.invariant-loop-slot
invariant-loop-slot g l = l.copy.kept.accepted ≡ trimmed (take l.slot l.source.kept.accepted)
