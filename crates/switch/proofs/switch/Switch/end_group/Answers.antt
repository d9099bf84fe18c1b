use Rattle.switch.proofs.Words.{◌≡◌, List, Option, Some, None, SwitchView, StoreView, ap, sym, ◌∙◌, arith, slice_get, slice_get_past}
use Rattle.switch.proofs.StoresLemmas.{view_past}
use Rattle.switch.proofs.GroupLemmas.{ends_logs, ends_switch, ends_view, none_past}
use Rattle.switch.proofs.switch.Switch.end_group.Goals as goal

pub returns-then-k-len-clause-commits : goal.returns-then-k-len-clause-commits
returns-then-k-len-clause-commits g c = λ view at.
    (let none = slice_get_past c.self.inside.stores.items c.args.k (omega (arith, c.if-k-len.true)) in
    let never : None ≡ Some view = sym (ap (λ (s : SwitchView g.row.V.Denot). slice_get s.stores c.args.k) (sym c.self.view_is) ∙ view_past c.self.inside.stores.items c.args.k none) ∙ at in cc)

pub invariant_of-self : goal.invariant_of-self
invariant_of-self g c = ends_switch g.V.Value.bytes _ _ c.self.invariant _ c.self.view_is c.args.k c.index_mut.result.now c.end_group.new.self (omega (arith, c.if-k-len.false)) c.index_mut.ensures.value c.end_group.result c.end_group.ensures

pub returns-clause-commits : goal.returns-clause-commits
returns-clause-commits g c = ends_view g.V.Value.bytes _ _ c.self.invariant _ c.self.view_is c.args.k c.index_mut.result.now c.end_group.new.self (omega (arith, c.if-k-len.false)) c.index_mut.ensures.value c.end_group.result c.end_group.ensures

pub returns-clause-no_node : goal.returns-clause-no_node
returns-clause-no_node g c = λ none. absurd (none_past g.V.Value.bytes _ _ c.self.invariant _ c.self.view_is c.args.k c.index_mut.result.now c.end_group.new.self (omega (arith, c.if-k-len.false)) c.index_mut.ensures.value none)

pub returns-clause-logs : goal.returns-clause-logs
returns-clause-logs g c = ends_logs g.V.Value.bytes _ _ c.self.invariant _ c.self.view_is c.args.k c.index_mut.result.now c.end_group.new.self (omega (arith, c.if-k-len.false)) c.index_mut.ensures.value
