use Rattle.nodes.specs.Adding.{IsAddFault}
use Rattle.nodes.proofs.PrefixLemmas.{prefix_self}
use Rattle.nodes.proofs.DeskLemmas.{handed, add_within}
use Rattle.nodes.proofs.desk.Desk.add.Goals as goal

pub returns-in_err-known-clause-refused : goal.returns-in_err-known-clause-refused
returns-in_err-known-clause-refused g c =
    handed (IsAddFault c.args.self.now.seen c.try_to_add.new.self.seen c.args.k c.args.entry.now) c.from_residual.result c.in_err-known.field-0.0 c.from_residual.ensures.1
    (add_within c.args.self.now.seen c.loop-attempt.self.seen c.try_to_add.new.self.seen c.try_to_add.new.self.seen c.args.k c.args.entry.now c.in_err-known.field-0.0
    c.loop-attempt.invariant.seen (prefix_self c.try_to_add.new.self.seen) c.in_err-known.ensures.refused)
