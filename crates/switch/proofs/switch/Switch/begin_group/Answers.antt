use Rattle.switch.proofs.Words.{List, Option, SwitchView, StoreView, ap, sym, ◌∙◌, arith, true, slice_get, slice_get_past, view_of, views_of, with_group_of}
use Rattle.switch.proofs.StoresLemmas.{view_past}
use Rattle.switch.proofs.GroupLemmas.{group_stays, grouped_view, regrouped}
use Rattle.switch.proofs.switch.Switch.begin_group.Goals as goal

pub invariant_of-self : goal.invariant_of-self
invariant_of-self g c = regrouped g.V.Value.bytes _ _ c.self.invariant _ c.self.view_is c.args.k c.index_mut.result.now c.begin_group.new.self (omega (arith, c.if-k-len.true)) c.index_mut.ensures.value true c.begin_group.ensures

pub returns-then-k-len-clause-group : goal.returns-then-k-len-clause-group
returns-then-k-len-clause-group g c = grouped_view g.V.Value.bytes _ _ c.self.invariant _ c.self.view_is c.args.k c.index_mut.result.now c.begin_group.new.self (omega (arith, c.if-k-len.true)) c.index_mut.ensures.value true c.begin_group.ensures

pub returns-then-k-len-clause-logs : goal.returns-then-k-len-clause-logs
returns-then-k-len-clause-logs g c = group_stays g.V.Value.bytes c.args.self.now _ c.args.k true _ (grouped_view g.V.Value.bytes _ _ c.self.invariant _ c.self.view_is c.args.k c.index_mut.result.now c.begin_group.new.self (omega (arith, c.if-k-len.true)) c.index_mut.ensures.value true c.begin_group.ensures)

pub returns-else-k-len-clause-group : goal.returns-else-k-len-clause-group
returns-else-k-len-clause-group g c =
    let none = slice_get_past c.self.inside.stores.items c.args.k (omega (arith, c.if-k-len.false)) in
    sym (ap (λ (o : Option (StoreView g.row.V.Denot)). with_group_of c.args.self.now c.args.k true o) (ap (λ (s : SwitchView g.row.V.Denot). slice_get s.stores c.args.k) (sym c.self.view_is) ∙ view_past c.self.inside.stores.items c.args.k none))
