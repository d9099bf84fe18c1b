use Rattle.net.proofs.Words.{arith}
use Rattle.net.proofs.HistoryLemmas.{new_records-push}
use Rattle.net.proofs.net.new_records.Goals as goal

pub loop-node-preserved : goal.loop-node-preserved
loop-node-preserved g c = new_records-push c.args.weights c.loop-node._node _ _ _ c.in_ok-push.ensures.items c.new.ensures c.loop-node.invariant (omega arith)
