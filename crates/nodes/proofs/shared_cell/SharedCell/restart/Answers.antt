use Rattle.std.proofs.Common.{◌≡◌, ℕ, subst, inl, inr}
use Rattle.std.specs.Prelude.{◌⊎◌}
use Rattle.net.specs.declared.event.Event.TheVariants.{Restart}
use Rattle.net.specs.declared.fault.StepFault.{StepFault}
use Rattle.net.specs.declared.fault.StepFault.TheVariants.{Apart}
use Rattle.nodes.specs.Desk.{Happens, IsRefusedIn}
use Rattle.nodes.proofs.PrefixLemmas.{prefix_self}
use Rattle.nodes.proofs.GoesOnLemmas.{then_ok}
use Rattle.nodes.proofs.DeskLemmas.{happens_later, refused_between, on_err}
use Rattle.nodes.proofs.SharedLemmas.{may_cell, restarted_entries, restarted_node, cell_recorded}
use Rattle.nodes.proofs.shared_cell.SharedCell.restart.Goals as goal

pub add-requires-clause-may : goal.add-requires-clause-may
add-requires-clause-may g c b =
    may_cell c.self.inside.cell c.self.inside.account c.self.invariant c.restart-answer.new.cell (restarted_node c.self.inside.cell c.restart-answer.new.cell c.restart-answer.ensures.cell) c.restart-answer.new.front
    (λ history pre run slot entry e. restarted_entries c.self.inside.cell c.restart-answer.new.cell c.restart-answer.ensures.cell history slot entry e) b

pub invariant_of-self-2 : goal.invariant_of-self-2
invariant_of-self-2 g c =
    cell_recorded c.self.inside.cell c.self.inside.account c.self.invariant c.restart-answer.new.cell c.add.new.self c.restart-answer.new.front c.add.new.front
    (restarted_node c.self.inside.cell c.restart-answer.new.cell c.restart-answer.ensures.cell) c.add.ensures.lock c.add.ensures.recorded

pub returns-clause-played : goal.returns-clause-played
returns-clause-played g c =
    let at : c.self.inside.cell.node ≡ c.args.k = cc in
    then_ok (Happens c.args.front.now c.restart-answer.new.front (Restart c.self.inside.cell.node)) (Happens c.args.front.now c.add.new.front (Restart c.args.k)) c.restart-answer.result
    (λ h. subst (λ (j : ℕ). Happens c.args.front.now c.add.new.front (Restart j)) at (happens_later c.args.front.now c.restart-answer.new.front c.add.new.front (Restart c.self.inside.cell.node) c.add.ensures.seen h))
    c.restart-answer.ensures.played

pub returns-clause-refused : goal.returns-clause-refused
returns-clause-refused g c =
    let at : c.self.inside.cell.node ≡ c.args.k = cc in
    on_err (λ (f : StepFault). (f ≡ Apart) ⊎ IsRefusedIn c.args.front.now c.restart-answer.new.front (Restart c.self.inside.cell.node) f)
    (λ (f : StepFault). (f ≡ Apart) ⊎ IsRefusedIn c.args.front.now c.add.new.front (Restart c.args.k) f) c.restart-answer.result
    (λ f h. elim h as (λ _. (f ≡ Apart) ⊎ IsRefusedIn c.args.front.now c.add.new.front (Restart c.args.k) f) [
      | inl apart ↦ inl apart
      | inr refused ↦ inr (subst (λ (j : ℕ). IsRefusedIn c.args.front.now c.add.new.front (Restart j) f) at
          (refused_between c.args.front.now c.args.front.now c.restart-answer.new.front c.add.new.front (Restart c.self.inside.cell.node) f (prefix_self c.args.front.now) c.add.ensures.seen refused))
    ])
    c.restart-answer.ensures.refused
