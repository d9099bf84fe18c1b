use Rattle.synod.proofs.Words.{◌∙◌, sym, other_tallies_at}
use Rattle.synod.proofs.OtherTalliesLemmas.{counted_new, counted_first, counted_other, learner_put}
use Rattle.synod.proofs.learner.Learner.count_vote.Goals as goal

pub invariant_of-self : goal.invariant_of-self
invariant_of-self g c = rw c.put.ensures.entries (learner_put c.self.inside.first_tallies.entries (other_tallies_at c.self.inside.other_tallies.votes) c.self.inside.learned.entries c.self.invariant c.args.slot _)

pub returns-in_default-clause-tallies : goal.returns-in_default-clause-tallies
returns-in_default-clause-tallies g c = rw (← c.self.view_is, c.put.ensures.entries) (
    counted_new c.self.inside.first_tallies.entries (other_tallies_at c.self.inside.other_tallies.votes) c.args.slot c.args.ballot c.args.node c.of_vote.result c.in_default.ensures (c.self.invariant.first c.args.slot c.in_default.ensures) c.of_vote.ensures.ballot c.of_vote.ensures.voters)

pub invariant_of-self-then-is_same : goal.invariant_of-self-then-is_same
invariant_of-self-then-is_same g c = rw c.put-then-is_same.ensures.entries (learner_put c.self.inside.first_tallies.entries (other_tallies_at c.self.inside.other_tallies.votes) c.self.inside.learned.entries c.self.invariant c.args.slot _)

pub returns-then-is_same-clause-tallies : goal.returns-then-is_same-clause-tallies
returns-then-is_same-clause-tallies g c = rw (← c.self.view_is, c.put-then-is_same.ensures.entries) (
    counted_first c.self.inside.first_tallies.entries (other_tallies_at c.self.inside.other_tallies.votes) c.args.slot c.args.ballot c.args.node c.in-Some.first.now c.with_vote-first.result c.in-Some.ensures (sym c.is_same.ensures ∙ c.if-is_same.true) c.with_vote-first.ensures.ballot c.with_vote-first.ensures.voters)

pub returns-else-is_same-clause-tallies : goal.returns-else-is_same-clause-tallies
returns-else-is_same-clause-tallies g c = rw (← c.self.view_is) (
    counted_other c.self.inside.first_tallies.entries (other_tallies_at c.self.inside.other_tallies.votes) c.args.slot c.args.ballot c.args.node c.in-Some.first.now (other_tallies_at c.count_vote.new.self.votes) c.in-Some.ensures (sym c.is_same.ensures ∙ c.if-is_same.false) c.count_vote.ensures.here c.count_vote.ensures.others)
