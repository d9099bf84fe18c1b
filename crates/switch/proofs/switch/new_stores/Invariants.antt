use Rattle.switch.proofs.Words.{◌≡◌, new_stores}
use Rattle.switch.proofs.switch.new_stores.Given as goal

abbrev pub invariant-loop-keep : goal.invariant-loop-keep
invariant-loop-keep g l = l.stores.items ≡ new_stores g.K.Keep.kept g.K.Keep.failures l.yielded
