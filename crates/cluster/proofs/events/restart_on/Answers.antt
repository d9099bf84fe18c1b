use Rattle.cluster.proofs.CellTieLemmas.{restarted_belongs}
use Rattle.cluster.proofs.events.restart_on.Goals as goal

pub returns-in_err-count-clause-belongs : goal.returns-in_err-count-clause-belongs
returns-in_err-count-clause-belongs g c = λ b. c.in_err-count.ensures.logs.after_error c.args.cell.now.node c.args.cell.now.entries b

pub returns-clause-belongs : goal.returns-clause-belongs
returns-clause-belongs g c = λ b.
    restarted_belongs c.args.cell.now c.reset.new.self c.args.switch.now c.play.new.self c.reset.ensures c.in_ok-count.ensures.logs.nodes b
