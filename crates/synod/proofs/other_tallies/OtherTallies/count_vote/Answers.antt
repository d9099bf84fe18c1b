use Rattle.synod.proofs.Words.{◌≡◌, ◌∙◌, refl, ap, arith, OtherTalliesView}
use Rattle.synod.proofs.OtherTalliesLemmas.{on_ok, vote_put, other_tallies-here, other_tallies-others}
use Rattle.synod.proofs.other_tallies.OtherTallies.count_vote.Goals as goal

put : (c : goal.After-insert) → c.insert.new.self.entries ≡ vote_put c.args.self.now.votes c.args.slot c.args.ballot c.args.node
put c =
    let room = ap (λ (view : OtherTalliesView). view.capacity) c.self.view_is in
    on_ok c.insert.result _ (c.insert.ensures.succeeds (omega (arith, room, c.requires.capacity))) c.insert.ensures.entries
    ∙ rw (c.voters_with-voters.ensures, ← c.self.view_is) refl

pub returns-clause-here : goal.returns-clause-here
returns-clause-here c = rw (put c) (other_tallies-here c.args.self.now.votes c.args.slot c.args.ballot c.args.node)

pub returns-clause-others : goal.returns-clause-others
returns-clause-others c = λ s other. rw (put c) (other_tallies-others c.args.self.now.votes c.args.slot c.args.ballot _ s other)
