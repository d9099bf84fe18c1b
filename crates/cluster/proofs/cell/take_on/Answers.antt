use Rattle.cluster.proofs.Words.{◌≡◌, Bool, Option, Result, Ok, Err, ap, ◌∙◌, StepFault, NoNode, length, refl, sym, subst, arith, option_map, Bor, log_after, world_of, IsLogPrefix, Carried, carried_size, Cell}
use Rattle.cluster.proofs.CellLemmas.{stays_cell, below_some}
use Rattle.cluster.proofs.CellTieLemmas.{err_ok, shown_is, taken_belongs, takes_over}
use Rattle.cluster.proofs.cell.take_on.Goals as goal

pub returns-in-Err-clause-no_node : goal.returns-in-Err-clause-no_node
returns-in-Err-clause-no_node g c = λ past.
    let at = ap (λ (x : Cell). x.node) c.cell.view_is in
    let none = c.entry.ensures.no_node (omega (arith, at, past)) in
    let both : (let r : Result (Option (Bor (Option Carried))) StepFault = Err c.in-Err.fault in r) ≡ Err NoNode = sym c.in-Err.is ∙ none in
    let same : c.in-Err.fault ≡ NoNode = cc in
    (ap (λ (f : StepFault). let r : Result Bool StepFault = Err f in r) same, refl)

pub returns-in-Err-clause-takes : goal.returns-in-Err-clause-takes
returns-in-Err-clause-takes g c = λ low.
    let at = ap (λ (x : Cell). x.node) c.cell.view_is in
    absurd (err_ok c.entry.result c.in-Err.fault c.in-Err.is (c.entry.ensures.node (omega (arith, at, low))))

pub invariant_of-cell : goal.invariant_of-cell
invariant_of-cell g c =
    stays_cell c.cell.inside.node c.cell.inside.node_library c.cell.inside.entries.items c.add_entry.new.entries.items c.cell.invariant
    (option_map (λ (e : Bor (Option Carried)). e.now) c.in-Ok.next) c.add_entry.result
    (below_some c.in-Ok.next c.len-slot.result (length c.cell.inside.entries.items) c.in-Ok.ensures.below (omega (arith, c.len-slot.ensures, c.cell.inside.entries.ok.0))) c.add_entry.ensures

pub returns-clause-no_node : goal.returns-clause-no_node
returns-clause-no_node g c = λ past.
    let at = ap (λ (x : Cell). x.node) c.cell.view_is in
    let none = c.entry.ensures.no_node (omega (arith, at, past)) in
    let no : Ok c.in-Ok.next ≡ Err NoNode = sym c.in-Ok.is ∙ none in cc

pub returns-clause-takes : goal.returns-clause-takes
returns-clause-takes g c = λ low.
    takes_over c.args.switch.now c.cell.inside.node c.cell.inside.node_library c.cell.inside.entries.items c.args.cell.now c.cell.view_is c.add_entry.new.entries.items c.in-Ok.next c.len-slot.result (omega (arith, c.len-slot.ensures, c.cell.inside.entries.ok.0)) c.in-Ok.ensures.entry c.add_entry.result c.add_entry.ensures

pub returns-clause-belongs : goal.returns-clause-belongs
returns-clause-belongs g c = λ b.
    taken_belongs c.args.switch.now c.cell.inside.node c.cell.inside.entries.items c.add_entry.new.entries.items (subst (λ (x : Cell). IsLogPrefix carried_size c.args.switch.now x.node x.entries) (sym c.cell.view_is) b)
    (option_map (λ (e : Bor (Option Carried)). e.now) c.in-Ok.next) c.add_entry.result c.len-slot.result (omega (arith, c.len-slot.ensures, c.cell.inside.entries.ok.0))
    (shown_is (log_after (world_of carried_size c.args.switch.now) c.cell.inside.node) c.len-slot.result c.in-Ok.next c.in-Ok.ensures.entry) c.add_entry.ensures
