use Rattle.verify.specs.Proves.{mandatory_labels}
use Rattle.explanation.proofs.FrontLemmas.{front-if}
use Rattle.explanation.proofs.stack.items_so_far.Goals as goal

pub returns : goal.returns
returns c s provable =
    front-if c.items_before-in_default.result c.args.proof.now (mandatory_labels c.args.frames.now.statements c.args.at s) c.len.result 0
    (c.items_before-in_default.ensures s provable)
