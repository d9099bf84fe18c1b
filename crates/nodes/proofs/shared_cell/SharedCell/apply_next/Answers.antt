use Rattle.std.proofs.Common.{ap}
use Rattle.nodes.specs.Words.{Cell}
use Rattle.nodes.proofs.SharedLemmas.{may_cell, same_entries, cell_recorded}
use Rattle.nodes.proofs.shared_cell.SharedCell.apply_next.Goals as goal

pub add-requires-clause-may : goal.add-requires-clause-may
add-requires-clause-may g c b =
    let rest = c.apply_on_with.ensures.rest in
    may_cell c.self.inside.cell c.self.inside.account c.self.invariant c.apply_on_with.new.cell (ap (λ (x : Cell). x.node) rest) c.front-front.result
    (λ history pre run slot entry e. same_entries c.self.inside.cell c.apply_on_with.new.cell (ap (λ (x : Cell). x.entries) rest) history slot entry e) b

pub invariant_of-self : goal.invariant_of-self
invariant_of-self g c =
    cell_recorded c.self.inside.cell c.self.inside.account c.self.invariant c.apply_on_with.new.cell c.add.new.self c.front-front.result c.add.new.front
    (ap (λ (x : Cell). x.node) c.apply_on_with.ensures.rest) c.add.ensures.lock c.add.ensures.recorded
