use Rattle.nodes.proofs.SharedLemmas.{took_self, took_then}
use Rattle.nodes.proofs.shared_cell.take_entries.Goals as goal

pub loop-entry-init : goal.loop-entry-init
loop-entry-init g c = took_self c.args.switch.now c.args.cell.now

pub loop-entry-preserved : goal.loop-entry-preserved
loop-entry-preserved g c = took_then c.args.switch.now c.args.cell.now c.loop-entry.cell c.take_next.new.cell c.loop-entry.invariant c.take_next.ensures
