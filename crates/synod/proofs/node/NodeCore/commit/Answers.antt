use Rattle.synod.proofs.Words.{◌∙◌, sym, ap, Node, staged_node}
use Rattle.synod.proofs.RoomLemmas.{can_commit}
use Rattle.synod.proofs.node.NodeCore.commit.Goals as goal

pub apply-requires : goal.apply-requires
apply-requires g c = can_commit c.args.ready.before c.args.self.now c.requires.node c.requires.capacity c.into_staged-staged.result.0 c.into_staged-staged.ensures.committable

pub returns-clause-node : goal.returns-clause-node
returns-clause-node g c = c.apply.ensures ∙ ap (λ (n : Node g.row.V.Denot). staged_node n c.into_staged-staged.result.0) c.requires.node ∙ sym c.into_staged-staged.ensures.node
