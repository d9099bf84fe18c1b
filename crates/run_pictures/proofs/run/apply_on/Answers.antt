use Rattle.run_pictures.proofs.Words.{refl, next_entry}
use Rattle.run_pictures.proofs.RunLemmas.{applies_or_not, history_stays}
use Rattle.run_pictures.proofs.run.apply_on.Goals as goal

pub returns-clause-applied : goal.returns-clause-applied
returns-clause-applied c =
    applies_or_not c.args.world.now c.apply_next.new.self c.args.k (next_entry c.args.world.now c.args.k) c.apply_next.result refl
    c.apply_next.ensures.applied c.apply_next.ensures.none c.apply_next.ensures.no_node c.apply_next.ensures.same_if_none

pub returns-clause-same_history : goal.returns-clause-same_history
returns-clause-same_history c =
    history_stays c.args.world.now c.apply_next.new.self c.args.k (next_entry c.args.world.now c.args.k) c.apply_next.result
    (applies_or_not c.args.world.now c.apply_next.new.self c.args.k (next_entry c.args.world.now c.args.k) c.apply_next.result refl
    c.apply_next.ensures.applied c.apply_next.ensures.none c.apply_next.ensures.no_node c.apply_next.ensures.same_if_none)
    c.apply_next.ensures.same
