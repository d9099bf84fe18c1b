use Rattle.switch.proofs.Words.{kept_parts_of, views_of, AreResumedStores}
use Rattle.switch.proofs.switch.resume_stores.Given as goal

-- the keeps so far have their records and stores
abbrev pub invariant-loop-keep : goal.invariant-loop-keep
invariant-loop-keep g l = AreResumedStores g.K.Keep.kept g.K.Keep.failures l.yielded (kept_parts_of l.records.items) (views_of l.stores.items)
