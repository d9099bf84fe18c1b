use Rattle.std.proofs.Common.{subst}
use Rattle.library.specs.declared.entry.Entry.{Entry}
use Rattle.net.specs.declared.event.Event.TheVariants.{Offer}
use Rattle.nodes.specs.Adding.{IsAddFault}
use Rattle.nodes.specs.Desk.{IsPlayFault}
use Rattle.nodes.proofs.DeskLemmas.{add_offer, on_err}
use Rattle.nodes.proofs.desk.Desk.submit_again.Goals as goal

pub returns-clause-refused : goal.returns-clause-refused
returns-clause-refused g c =
    on_err (IsPlayFault c.args.self.now.seen c.submit-answer.new.self.seen (Offer c.args.k (record { 0 = c.in_ok-copy.copy })))
    (IsAddFault c.args.self.now.seen c.submit-answer.new.self.seen c.args.k c.args.entry.now) c.submit-answer.result
    (λ f p. add_offer c.args.self.now.seen c.submit-answer.new.self.seen c.args.k c.args.entry.now f
    (subst (λ (e : Entry). IsPlayFault c.args.self.now.seen c.submit-answer.new.self.seen (Offer c.args.k (record { 0 = e })) f) c.in_ok-copy.ensures p))
    c.submit-answer.ensures.refused
