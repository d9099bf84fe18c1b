use Rattle.world.proofs.Words.{◌≡◌, ◌∙◌, ap, arith, replicate, new_node_library}
use Rattle.world.proofs.node_library.new_libraries.Goals as goal

pub returns : goal.returns
returns c =
    let end : c.loop-node._node ≡ c.args.nodes = omega (arith, c.loop-node.auto._node-end, c.loop-node-test.false) in
    c.loop-node.invariant ∙ ap (λ n. replicate n (new_node_library c.args.work_limit)) end
