use Rattle.nodes.specs.Adding.{IsAddFault}
use Rattle.nodes.proofs.PrefixLemmas.{prefix_self, prefix_trans}
use Rattle.nodes.proofs.DeskLemmas.{handed, add_begin, add_within}
use Rattle.nodes.proofs.desk.Desk.try_to_add.Goals as goal

pub returns-in_err-begin_again-clause-refused : goal.returns-in_err-begin_again-clause-refused
returns-in_err-begin_again-clause-refused g c =
    handed (IsAddFault c.args.self.now.seen c.begin_again.new.self.seen c.args.k c.args.entry.now) c.from_residual-in_err-begin_again.result c.in_err-begin_again.field-0.0 c.from_residual-in_err-begin_again.ensures.1
    (add_within c.args.self.now.seen c.outcome.new.self.seen c.begin_again.new.self.seen c.begin_again.new.self.seen c.args.k c.args.entry.now c.in_err-begin_again.field-0.0
    (prefix_trans c.args.self.now.seen c.submit_again.new.self.seen c.outcome.new.self.seen c.submit_again.ensures.seen c.outcome.ensures.seen)
    (prefix_self c.begin_again.new.self.seen)
    (add_begin c.outcome.new.self.seen c.begin_again.new.self.seen c.args.k c.args.entry.now c.in_err-begin_again.field-0.0 c.in_err-begin_again.ensures.refused))
