use Rattle.synod.proofs.Words.{◌∙◌, ap, sym, List, Bool, is_voter, other_tallies_at}
use Rattle.synod.proofs.OtherTalliesLemmas.{other_tallies-voters, voters_new, voters_first, voters_other}
use Rattle.synod.proofs.learner.Learner.voters_with.Goals as goal

pub returns-then-is_same : goal.returns-then-is_same
returns-then-is_same g c = rw (← c.self.view_is) (λ k. ap (λ (voters : List Bool). is_voter voters k) c.with_vote.ensures.voters
    ∙ sym (voters_first c.self.inside.first_tallies.entries (other_tallies_at c.self.inside.other_tallies.votes) c.args.slot c.args.ballot c.args.node c.in-Some.first.now c.in-Some.ensures (sym c.is_same.ensures ∙ c.if-is_same.true) k))

pub returns-else-is_same : goal.returns-else-is_same
returns-else-is_same g c = rw (← c.self.view_is) (λ k. ap (λ (voters : List Bool). is_voter voters k) c.voters_with.ensures
    ∙ sym (other_tallies-voters c.self.inside.other_tallies.votes c.args.slot c.args.ballot c.args.node k)
    ∙ sym (voters_other c.self.inside.first_tallies.entries (other_tallies_at c.self.inside.other_tallies.votes) c.args.slot c.args.ballot c.args.node c.in-Some.first.now c.in-Some.ensures (sym c.is_same.ensures ∙ c.if-is_same.false) k))

pub returns-in-None : goal.returns-in-None
returns-in-None g c = rw (← c.self.view_is) (λ k. ap (λ (voters : List Bool). is_voter voters k) c.of_vote.ensures.voters
    ∙ sym (voters_new c.self.inside.first_tallies.entries (other_tallies_at c.self.inside.other_tallies.votes) c.args.slot c.args.ballot c.args.node c.in-None.ensures k))
