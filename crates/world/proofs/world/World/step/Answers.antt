use Rattle.world.proofs.WorldViewLemmas.{step_keeps}
use Rattle.world.proofs.world.World.step.Goals as goal

pub invariant_of-self-2 : goal.invariant_of-self-2
invariant_of-self-2 c =
    step_keeps (record { history = c.self.inside.net.history; work_limit = c.self.inside.work_limit; libraries = c.self.inside.libraries.items }) c.to_value_event-event.result c.step.new.self.history c.reset_library.new.libraries.items c.restarted_node-restarted_node.result c.in_ok-posted.posted
    c.self.invariant c.in_ok-posted.ensures.taken c.restarted_node-restarted_node.ensures c.reset_library.ensures c.in_ok-posted.ensures.refused
