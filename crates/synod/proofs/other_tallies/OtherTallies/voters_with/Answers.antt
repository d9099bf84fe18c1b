use Rattle.synod.proofs.Words.{◌∙◌, ap, List, Bool, with_voter}
use Rattle.synod.proofs.OtherTalliesLemmas.{marks, among-lookup}
use Rattle.synod.proofs.other_tallies.OtherTallies.voters_with.Goals as goal
use Rattle.synod.proofs.other_tallies.OtherTallies.voters_with.Goals.{in-Some, in-None}

pub returns : goal.returns
returns c =
    let among = among-lookup c.self.inside.voters.entries c.args.slot c.args.ballot in
    rw (c.with_mark.ensures, ← c.self.view_is) (ap (λ (voters : List Bool). with_voter voters c.args.node) (elim c.match-get.branch [
      | in-Some w ↦ w.voters-is ∙ ap marks w.in-Some.ensures.value ∙ among
      | in-None w ↦ w.voters-is ∙ ap marks w.in-None.ensures.value ∙ among
    ]))
