use Rattle.cluster.proofs.Words.{◌≡◌, ℕ, ◌<◌, slice_get, log_after, world_of, carried_size}
use Rattle.cluster.proofs.log.is_log_prefix.Given as goal

-- the entries so far are those of the log
abbrev pub invariant-loop-slot : goal.invariant-loop-slot
invariant-loop-slot g l = (i : ℕ) → i < l.slot → slice_get (log_after (world_of carried_size l.switch) l.k) i ≡ slice_get l.entries i
