use Rattle.std.proofs.Common.{◌≡◌, arith, sym, ◌∙◌, subst}
use Rattle.std.proofs.lemmas.Bool.Decides.{nat_tests}
use Rattle.nodes.specs.Shared.{IsNodeCell, SharedCellView}
use Rattle.nodes.proofs.SharedLemmas.{cell_looked}
use Rattle.nodes.proofs.shared_cell.SharedCell.look.Goals as goal

pub returns-then-look-clause-at : goal.returns-then-look-clause-at
returns-then-look-clause-at g c t =
    let s = c.look.ensures.same c.if-look.true in
    let same : c.node.result ≡ c.args.k = grind (arith, nat_tests) in
    let node : c.self.inside.cell.node ≡ c.args.k = sym c.node.ensures ∙ same in
    subst (λ (v : SharedCellView). IsNodeCell c.look.new.front c.args.k v.cell) c.self.view_is
    (cell_looked c.self.inside.cell c.self.inside.account c.self.invariant s.0 c.look.new.front c.look.ensures.account s.1 c.args.k node c.library-library.ensures.of_entries)
