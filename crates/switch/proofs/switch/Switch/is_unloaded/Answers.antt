use Rattle.switch.proofs.Words.{List, Option, length, get_or, ap, sym, ◌∙◌, arith, refl, slice_get_past, slice_get_read, StoreState, StoreView, SwitchView, is_unloaded_at, is_unloaded_view}
use Rattle.switch.proofs.StoresLemmas.{view_at, view_past}
use Rattle.switch.proofs.switch.Switch.is_unloaded.Goals as goal

pub returns-in-Some : goal.returns-in-Some
returns-in-Some g c =
    let Stores : Type 0 = List (StoreState g.row.V.Denot) in
    let count = ap (λ (stores : Stores). length stores) c.deref.ensures.value in
    let is = c.in-Some.ensures.lookup.1 ∙ ap (λ (stores : Stores). get_or stores c.args.k c.in-Some.store.now) c.deref.ensures.value in
    let at = slice_get_read c.self.inside.stores.items (length c.self.inside.stores.items) c.args.k c.in-Some.store.now refl (omega (arith, count, c.in-Some.ensures.lookup.3.0)) is in
    c.is_unloaded.ensures ∙ sym (ap (λ (o : Option (StoreView g.row.V.Denot)). is_unloaded_view o) (view_at c.self.inside.stores.items c.args.k c.in-Some.store.now at))
    ∙ ap (λ (s : SwitchView g.row.V.Denot). is_unloaded_at s.stores c.args.k) c.self.view_is

pub returns-in-None : goal.returns-in-None
returns-in-None g c =
    let count = ap (λ (stores : List (StoreState g.row.V.Denot)). length stores) c.deref.ensures.value in
    let none = slice_get_past c.self.inside.stores.items c.args.k (omega (arith, count, c.in-None.ensures.lookup.3)) in
    sym (ap (λ (o : Option (StoreView g.row.V.Denot)). is_unloaded_view o) (view_past c.self.inside.stores.items c.args.k none))
    ∙ ap (λ (s : SwitchView g.row.V.Denot). is_unloaded_at s.stores c.args.k) c.self.view_is
