use Rattle.std.proofs.Common.{◌+◌, List, subst}
use Rattle.nodes.specs.Words.{IsPrefixOf}
use Rattle.nodes.specs.declared.moment.Moment.{Moment}
use Rattle.nodes.specs.Moments.{count_of}
use Rattle.nodes.proofs.SharedLemmas.{cell_between}
use Rattle.nodes.proofs.shared_nodes.are_at.Goals as goal

pub returns-clause-one : goal.returns-clause-one
returns-clause-one g c t =
    let later : IsPrefixOf c.is_at-is_other.new.front c.look-is_still.new.front = subst (λ (ms : List Moment). IsPrefixOf ms c.look-is_still.new.front) c.again-later.ensures.same c.look-is_still.ensures.seen in
    cell_between c.args.j c.args.one.now.cell (count_of (2 + c.args.j) c.args.one.now.account.history) c.look-is_one.new.front c.is_at-is_other.new.front c.look-is_still.new.front
    (c.look-is_one.ensures.at c.if-not-is_one.false) c.is_at-is_other.ensures.seen later (c.look-is_one.ensures.count c.if-not-is_one.false) (c.look-is_still.ensures.count t)
