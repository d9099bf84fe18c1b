use Rattle.subst.proofs.Words.{◌≡◌, ◌+◌, ◌-◌, ◌++◌, length, take, drop, min}
use Rattle.subst.proofs.copies.copy_run.Given as goal

abbrev pub invariant-loop-done : goal.invariant-loop-done
invariant-loop-done l =
    (take (l.at + min l.done l.len) l.symbols ≡ take l.at l.fn.symbols ++ take (min l.done l.len) (drop l.from l.fn.symbols))
    × (length l.symbols ≡ length l.fn.symbols)

abbrev pub decreases-loop-done : goal.decreases-loop-done
decreases-loop-done l = l.len - l.done
