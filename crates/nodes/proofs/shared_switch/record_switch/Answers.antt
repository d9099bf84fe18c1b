use Rattle.nodes.proofs.SharedLemmas.{may_switch, switch_recorded}
use Rattle.nodes.proofs.shared_switch.record_switch.Goals as goal

pub add-requires-clause-may : goal.add-requires-clause-may
add-requires-clause-may g c b = may_switch c.args.switch.now c.args.account.now c.requires.lock c.requires.goes_on c.history-history.ensures.history_taken c.history-history.ensures.idle c.args.front.now b

pub returns-clause-at : goal.returns-clause-at
returns-clause-at g c b = switch_recorded c.args.account.now c.add.new.self c.args.front.now c.add.new.front c.args.switch.now (c.add.ensures.recorded b)
