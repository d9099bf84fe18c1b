use Rattle.nodes.proofs.SharedLemmas.{none_goes}
use Rattle.nodes.proofs.shared_switch.SharedSwitch.new.Goals as goal

pub record_switch-requires-clause-goes_on : goal.record_switch-requires-clause-goes_on
record_switch-requires-clause-goes_on g c b = none_goes c.args.account c.args.switch c.requires.none b
