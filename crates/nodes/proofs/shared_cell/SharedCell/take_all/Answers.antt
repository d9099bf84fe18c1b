use Rattle.std.proofs.Common.{◌≡◌, true, sym, ◌∙◌}
use Rattle.nodes.specs.Moments.{IsSwitchAt}
use Rattle.nodes.proofs.SharedLemmas.{may_cell, took_learned, cell_recorded}
use Rattle.nodes.proofs.shared_cell.SharedCell.take_all.Goals as goal

pub add-requires-clause-may : goal.add-requires-clause-may
add-requires-clause-may g c b =
    let other : c.args.shared_switch.now.account.belongs ≡ true = sym c.belongs.ensures ∙ c.if-not-belongs.false in
    let at : IsSwitchAt c.front-front.result c.switch.result.now = rw (c.front-front.ensures, c.switch.ensures.same) (c.switch.ensures.at other) in
    may_cell c.self.inside.cell c.self.inside.account c.self.invariant c.take_entries.new.cell c.take_entries.ensures.node c.front-front.result
    (took_learned c.switch.result.now c.self.inside.cell c.take_entries.new.cell c.front-front.result at c.take_entries.ensures) b

pub invariant_of-self : goal.invariant_of-self
invariant_of-self g c =
    cell_recorded c.self.inside.cell c.self.inside.account c.self.invariant c.take_entries.new.cell c.add.new.self c.front-front.result c.add.new.front
    c.take_entries.ensures.node c.add.ensures.lock c.add.ensures.recorded
