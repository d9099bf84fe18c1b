use Rattle.synod.proofs.Words.{◌∙◌, ◌<◌, sym, subst, arith, length, common_steps, SLOTS, Role, Leading, IsNode, IsRole, proposes_value}
use Rattle.synod.proofs.NodeInvariant.{slot_is_taken}
use Rattle.synod.proofs.NodeLemmas.{node_of_parts, memory_posts}
use Rattle.synod.proofs.node.NodeCore.ready_offer.Goals as goal

pub stage_proposal-requires-clause-preserves : goal.stage_proposal-requires-clause-preserves
stage_proposal-requires-clause-preserves g c =
    let is : IsNode c.args.self.now.node = node_of_parts c.self.inside.me c.self.inside.weights c.self.inside.kept_part c.self.inside.proposer c.self.inside.learner c.args.self.now c.self.view_is c.self.invariant in
    let within : IsRole (Leading c.in-Leading.ballot c.in-Leading.next) = subst (λ (r : Role). IsRole r) (sym c.role.ensures ∙ c.in-Leading.is) c.self.invariant.role in
    let low : c.in-Leading.next < SLOTS = grind (arith, common_steps, within) in
    slot_is_taken c.args.self.now.node is c.in-Leading.ballot c.in-Leading.next c.args.value low

pub returns-else-next-eq-SLOTS-clause-posts : goal.returns-else-next-eq-SLOTS-clause-posts
returns-else-next-eq-SLOTS-clause-posts g c =
    let is : IsNode c.args.self.now.node = node_of_parts c.self.inside.me c.self.inside.weights c.self.inside.kept_part c.self.inside.proposer c.self.inside.learner c.args.self.now c.self.view_is c.self.invariant in
    let within : IsRole (Leading c.in-Leading.ballot c.in-Leading.next) = subst (λ (r : Role). IsRole r) (sym c.role.ensures ∙ c.in-Leading.is) c.self.invariant.role in
    let low : c.in-Leading.next < SLOTS = grind (arith, common_steps, within) in
    memory_posts (length c.args.self.now.node.weights) c.stage_proposal.new.self (proposes_value c.args.self.now.node c.in-Leading.ballot c.in-Leading.next c.args.value) c.stage_proposal.result c.or_memory.result c.stage_proposal.ensures.ready c.or_memory.ensures.ok c.or_memory.ensures.err
    (slot_is_taken c.args.self.now.node is c.in-Leading.ballot c.in-Leading.next c.args.value low)
