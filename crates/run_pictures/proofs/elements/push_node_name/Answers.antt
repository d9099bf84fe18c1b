use Rattle.run_pictures.specs.Elements.{node_name}
use Rattle.run_pictures.proofs.AppendLemmas.{joined-last}
use Rattle.run_pictures.proofs.elements.push_node_name.Goals as goal

pub returns : goal.returns
unfolding node_name
returns c =
    joined-last c.args.text.now.items c.push_two_numbered.new.text.items c.extend_from_slice.new.self.items _ _ c.extend_from_slice.result
    c.in_ok-push_two_numbered.ensures c.extend_from_slice.ensures.items
