use Rattle.synod.proofs.Words.{◌∙◌, ap, false, get_or, Core, is_quorum, has_voter, counted}
use Rattle.synod.proofs.WeighLemmas.{is_quorum-same}
use Rattle.synod.proofs.node.NodeCore.completes_quorum.Goals as goal

pub returns : goal.returns
returns g c =
    c.is_quorum.ensures
    ∙ is_quorum-same (λ k. get_or c.voters_with-voters.result k false) (has_voter (counted c.self.inside.learner.state.tallies c.args.slot c.args.ballot c.args.node) c.args.slot c.args.ballot) c.self.inside.weights (λ k h. c.voters_with-voters.ensures k)
    ∙ ap (λ (core : Core g.row.V.Denot). is_quorum core.node.weights (has_voter (counted core.node.tallies c.args.slot c.args.ballot c.args.node) c.args.slot c.args.ballot)) c.self.view_is
