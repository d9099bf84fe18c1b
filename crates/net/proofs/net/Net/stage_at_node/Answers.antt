use Rattle.net.proofs.Words.{List, length, ap, refl, sym, subst, ◌∙◌, AllByRecursion, Packet, IsPost, node_of_event, NetView, IsStagingResultOfEvent}
use Rattle.net.proofs.StepsStaged.{gives_event_here, gives_no_node, gives_no_packet, posts_at, still_here, of_world_here, not_moved}
use Rattle.net.proofs.net.Net.stage_at_node.Goals as goal

pub returns-in_default-clause-staged : goal.returns-in_default-clause-staged
returns-in_default-clause-staged g c =
    gives_no_packet g.V.Value.bytes _ _ c.self.view_is c.self.invariant c.requires c.args.event
    (ap (λ (n : NetView g.row.V.Denot). node_of_event n.packets c.args.event) c.self.view_is ∙ sym c.node_of.ensures ∙ c.in_default.is) _

pub returns-in_default-clause-only_capacity : goal.returns-in_default-clause-only_capacity
returns-in_default-clause-only_capacity g c = not_moved _ _ refl

pub stage_event-requires-clause-posts : goal.stage_event-requires-clause-posts
stage_event-requires-clause-posts g c =
    subst (λ (ps : List (Packet g.row.V.Denot)). AllByRecursion (IsPost (length c.in-Some-get_mut.node.now.node.weights)) ps) (sym c.deref.ensures.value)
    (posts_at g.V.Value.bytes _ _ c.self.view_is c.self.invariant c.requires c.in-Some.k c.in-Some-get_mut.node.now c.in-Some-get_mut.ensures.item.3.0 c.in-Some-get_mut.ensures.value)

pub returns-in_default-get_mut-clause-staged : goal.returns-in_default-get_mut-clause-staged
returns-in_default-get_mut-clause-staged g c =
    gives_no_node g.V.Value.bytes _ _ c.self.view_is c.self.invariant c.requires c.in-Some.k c.args.event
    (ap (λ (n : NetView g.row.V.Denot). node_of_event n.packets c.args.event) c.self.view_is ∙ sym c.node_of.ensures ∙ c.in-Some.is) c.in_default-get_mut.ensures.item.3 _

pub returns-in_default-get_mut-clause-only_capacity : goal.returns-in_default-get_mut-clause-only_capacity
returns-in_default-get_mut-clause-only_capacity g c = not_moved _ _ c.self.view_is

pub invariant_of-self-2 : goal.invariant_of-self-2
invariant_of-self-2 g c =
    of_world_here g.V.Value.bytes _ _ c.self.view_is c.self.invariant c.requires c.in-Some.k c.in-Some-get_mut.node.now c.stage_event.new.node c.in-Some-get_mut.ensures.item.3.0 c.in-Some-get_mut.ensures.value c.stage_event.ensures.node c.stage_event.ensures.capacity

pub returns-clause-staged : goal.returns-clause-staged
returns-clause-staged g c =
    gives_event_here g.V.Value.bytes _ _ c.self.view_is c.self.invariant c.requires c.in-Some.k c.in-Some-get_mut.node.now c.stage_event.new.node c.in-Some-get_mut.ensures.item.3.0 c.in-Some-get_mut.ensures.value c.stage_event.ensures.node
    c.args.event (ap (λ (n : NetView g.row.V.Denot). node_of_event n.packets c.args.event) c.self.view_is ∙ sym c.node_of.ensures ∙ c.in-Some.is) c.stage_event.result
    (subst (λ (ps : List (Packet g.row.V.Denot)). IsStagingResultOfEvent g.V.Value.bytes ps c.in-Some-get_mut.node.now c.stage_event.new.node c.in-Some.k c.args.event c.stage_event.result) c.deref.ensures.value c.stage_event.ensures.ready)

pub returns-clause-only_capacity : goal.returns-clause-only_capacity
returns-clause-only_capacity g c =
    still_here g.V.Value.bytes _ _ c.self.view_is c.self.invariant c.requires c.in-Some.k c.in-Some-get_mut.node.now c.stage_event.new.node c.in-Some-get_mut.ensures.item.3.0 c.in-Some-get_mut.ensures.value c.stage_event.ensures.node c.stage_event.ensures.capacity
