use Rattle.subst.proofs.Words.{◌≡◌, ◌++◌, take, code_apply}
use Rattle.subst.proofs.images.append_applied.Given as goal

abbrev pub invariant-loop-symbol : goal.invariant-loop-symbol
invariant-loop-symbol l = l.out.items ≡ l.initial.out.items ++ code_apply l.subst (take l.symbol-index l.expr)
