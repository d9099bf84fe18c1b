use Rattle.synod.proofs.Words.{◌∙◌, ap, arith, false, get_or, Core, is_quorum, is_heard}
use Rattle.synod.proofs.WeighLemmas.{is_quorum-same}
use Rattle.synod.proofs.node.NodeCore.has_heard_quorum.Goals as goal

pub returns : goal.returns
returns g c =
    c.is_quorum.ensures
    ∙ is_quorum-same (λ k. get_or c.marks_of-marks.result k false) (is_heard c.args.heard.now) c.self.inside.weights (λ k h. c.marks_of-marks.ensures k (omega (arith, h, c.self.invariant.weights.few)))
    ∙ ap (λ (core : Core g.row.V.Denot). is_quorum core.node.weights (is_heard c.args.heard.now)) c.self.view_is
