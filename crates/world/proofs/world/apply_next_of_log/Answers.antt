use Rattle.world.proofs.Words.{Option, subst, Entry, log_after, world_of, carried_size, AppliesNext}
use Rattle.world.proofs.AppliedNext.{entry_next}
use Rattle.world.proofs.world.apply_next_of_log.Goals as goal

pub returns : goal.returns
returns c =
    subst (λ (o : Option (Option Entry)). AppliesNext c.args.node_library.now c.apply_next.new.self o c.apply_next.result)
    (entry_next (log_after (world_of carried_size c.args.net.now.history) c.args.k) c.args.node_library.now.applied c.applied.result c.in_ok-next.next c.applied.ensures c.in_ok-next.ensures.entry) c.apply_next.ensures
