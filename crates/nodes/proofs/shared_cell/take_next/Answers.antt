use Rattle.nodes.proofs.SharedLemmas.{took_next}
use Rattle.nodes.proofs.shared_cell.take_next.Goals as goal

pub returns : goal.returns
returns g c = took_next c.args.switch.now c.args.cell.now c.take_on-taken.new.cell c.take_on-taken.result c.take_on-taken.ensures.no_node c.take_on-taken.ensures.takes
