use Rattle.std.proofs.Common.{◌≡◌, ℕ, ◌+◌, List, Option, length, arith, ap, sym, ◌∙◌}
use Rattle.std.proofs.lemmas.Bool.Decides.{nat_tests}
use Rattle.nodes.specs.Words.{Carried}
use Rattle.nodes.proofs.SharedLemmas.{may_begin, cell_begun}
use Rattle.nodes.proofs.shared_cell.SharedCell.new.Goals as goal

pub add-requires-clause-may : goal.add-requires-clause-may
add-requires-clause-may g c b =
    let empty = (c.leave_unless-2.ensures.belongs b).1 in
    let none : length c.entries.result.now ≡ 0 = (let test = sym c.is_empty.ensures ∙ empty in grind (arith, nat_tests, test)) in
    may_begin c.args.cell c.leave_unless-2.new.self c.args.front.now (ap (λ (es : List (Option Carried)). length es) (sym c.entries.ensures) ∙ none)

pub invariant_of-result : goal.invariant_of-result
invariant_of-result g c = record {
  tie = λ b.
      let r = c.add.ensures.recorded b in
      let is = (c.leave_unless.ensures.belongs (c.leave_unless-2.ensures.belongs r.belonged).0).1 in
      let same : c.node.result ≡ c.args.k = grind (arith, nat_tests) in
      let node : c.args.cell.node ≡ c.args.k = sym c.node.ensures ∙ same in
      cell_begun c.args.cell c.leave_unless-2.new.self c.add.new.self c.args.front.now c.add.new.front
      (c.add.ensures.lock ∙ c.leave_unless-2.ensures.lock ∙ c.leave_unless.ensures.lock ∙ c.requires.lock ∙ ap (λ (j : ℕ). 2 + j) (sym node)) r;
}
