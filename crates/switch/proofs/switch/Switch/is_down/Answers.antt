use Rattle.switch.proofs.Words.{ℕ, List, Option, Some, length, get_or, ap, sym, ◌∙◌, arith, refl, slice_get_past, slice_get_read, StoreState, StoreView, SwitchView, is_down_at, is_down_view}
use Rattle.switch.proofs.StoresLemmas.{view_at, view_past}
use Rattle.switch.proofs.switch.Switch.is_down.Goals as goal

pub returns-in-Some-get : goal.returns-in-Some-get
returns-in-Some-get g c =
    let Stores : Type 0 = List (StoreState g.row.V.Denot) in
    let count = ap (λ (stores : Stores). length stores) c.deref.ensures.value in
    let is = c.in-Some-get.ensures.lookup.1 ∙ ap (λ (stores : Stores). get_or stores c.in-Some.k c.in-Some-get.store.now) c.deref.ensures.value in
    let at = slice_get_read c.self.inside.stores.items (length c.self.inside.stores.items) c.in-Some.k c.in-Some-get.store.now refl (omega (arith, count, c.in-Some-get.ensures.lookup.3.0)) is in
    c.is_down.ensures ∙ sym (ap (λ (o : Option (StoreView g.row.V.Denot)). is_down_view o) (view_at c.self.inside.stores.items c.in-Some.k c.in-Some-get.store.now at))
    ∙ ap (λ (s : SwitchView g.row.V.Denot). is_down_at s.stores (Some c.in-Some.k)) c.self.view_is
    ∙ ap (λ (o : Option ℕ). is_down_at c.args.self.now.stores o) (sym c.in-Some.is)

pub returns-in-None : goal.returns-in-None
returns-in-None g c =
    let count = ap (λ (stores : List (StoreState g.row.V.Denot)). length stores) c.deref.ensures.value in
    let none = slice_get_past c.self.inside.stores.items c.in-Some.k (omega (arith, count, c.in-None.ensures.lookup.3)) in
    sym (ap (λ (o : Option (StoreView g.row.V.Denot)). is_down_view o) (view_past c.self.inside.stores.items c.in-Some.k none))
    ∙ ap (λ (s : SwitchView g.row.V.Denot). is_down_at s.stores (Some c.in-Some.k)) c.self.view_is
    ∙ ap (λ (o : Option ℕ). is_down_at c.args.self.now.stores o) (sym c.in-Some.is)
