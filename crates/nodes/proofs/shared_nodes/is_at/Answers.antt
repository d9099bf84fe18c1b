use Rattle.std.proofs.Common.{◌+◌, List, subst}
use Rattle.nodes.specs.Words.{IsPrefixOf}
use Rattle.nodes.specs.declared.moment.Moment.{Moment}
use Rattle.nodes.specs.Moments.{count_of}
use Rattle.nodes.proofs.SharedLemmas.{cell_between}
use Rattle.nodes.proofs.shared_nodes.is_at.Goals as goal

pub returns-clause-cell : goal.returns-clause-cell
returns-clause-cell g c t =
    let later : IsPrefixOf c.look-is_switch.new.front c.look-is_still.new.front = subst (λ (ms : List Moment). IsPrefixOf ms c.look-is_still.new.front) c.again-later.ensures.same c.look-is_still.ensures.seen in
    cell_between c.args.k c.args.shared_cell.now.cell (count_of (2 + c.args.k) c.args.shared_cell.now.account.history) c.look-is_cell.new.front c.look-is_switch.new.front c.look-is_still.new.front
    (c.look-is_cell.ensures.at c.if-not-is_cell.false) c.look-is_switch.ensures.seen later (c.look-is_cell.ensures.count c.if-not-is_cell.false) (c.look-is_still.ensures.count t)
