use Rattle.subst.proofs.Words.{◌≡◌, ◌≤◌, length, take, code_apply, images_at}
use Rattle.subst.proofs.writing.applied_len.Given as goal

abbrev pub invariant-loop-symbol : goal.invariant-loop-symbol
invariant-loop-symbol l = (l.len ≡ length (code_apply (images_at l.symbols l.images) (take l.symbol-index l.expr))) × (l.len ≤ l.room)
