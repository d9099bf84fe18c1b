use Rattle.net.proofs.Words.{◌∙◌, ap, Node, reloaded}
use Rattle.net.proofs.net.begin_node.Goals as goal

pub returns : goal.returns
returns g c = c.commit_reload.ensures ∙ ap (λ (n : Node g.row.V.Denot). (reloaded n c.args.stored.kept).node) c.new-node.ensures
