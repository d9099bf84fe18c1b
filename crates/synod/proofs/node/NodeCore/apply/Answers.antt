use Rattle.synod.proofs.Words.{◌≡◌, ◌∙◌, sym, ap, subst, Node, Core, assembled, staged_node, IsNode}
use Rattle.synod.proofs.node.NodeCore.apply.Goals as goal

pub invariant_of-self : goal.invariant_of-self
invariant_of-self g c =
    let is = ap (λ (core : Core g.row.V.Denot). staged_node core.node c.args.staged) (sym c.self.view_is) in
    let made : staged_node c.args.self.now.node c.args.staged ≡ assembled c.self.inside.me c.self.inside.weights c.apply_change.new.self.kept c.apply_update.new.self.state c.apply_update-2.new.self.state =
    is ∙ (λ i. assembled c.self.inside.me c.self.inside.weights (sym c.apply_change.ensures i) (sym c.apply_update.ensures i) (sym c.apply_update-2.ensures i)) in
    subst (λ (n : Node g.row.V.Denot). IsNode n) made c.requires.node
