use Rattle.nodes.proofs.SharedLemmas.{delivered_on, goes_in}
use Rattle.nodes.proofs.shared_switch.SharedSwitch.deliver.Goals as goal

pub record_switch-requires-clause-goes_on : goal.record_switch-requires-clause-goes_on
record_switch-requires-clause-goes_on g c b =
    goes_in c.self.inside.switch c.self.inside.account c.self.invariant c.deliver_on-answer.new.switch
    (delivered_on c.self.inside.switch c.deliver_on-answer.new.switch c.args.number c.deliver_on-answer.result c.deliver_on-answer.ensures.plays) b
