use Rattle.subst.proofs.Words.{◌≡◌, ◌≤◌, ◌++◌, take, slice_range, code_apply, images_at, symbols_in}
use Rattle.subst.proofs.matching.matches.Given as goal

abbrev pub invariant-loop-symbol : goal.invariant-loop-symbol
invariant-loop-symbol l =
    (l.at ≤ l.end) × (symbols_in l.symbols l.fn.range ≡ code_apply (images_at l.symbols l.images) (take l.symbol-index l.expr) ++ slice_range l.symbols l.at l.end)
