use Rattle.cluster.proofs.Words.{◌∙◌, sym, log_after, world_of, carried_size}
use Rattle.cluster.proofs.CellTieLemmas.{err_ok, shown_is}
use Rattle.cluster.proofs.log.has_entry.Goals as goal

pub returns-in-Ok : goal.returns-in-Ok
returns-in-Ok g c =
    let is = shown_is (log_after (world_of carried_size c.args.switch.now) c.args.k) c.args.slot c.in-Ok.found c.in-Ok.ensures.entry in (
      λ yes. sym is ∙ c.is_equal_value.ensures.0 yes,
      λ at. c.is_equal_value.ensures.1 (is ∙ at),
    )

pub returns-in-Err : goal.returns-in-Err
returns-in-Err g c = absurd (err_ok c.entry.result _ c.in-Err.is (c.entry.ensures.node c.requires))
