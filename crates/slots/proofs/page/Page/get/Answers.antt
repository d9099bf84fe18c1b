use Rattle.std.proofs.Common.{◌≡◌, ◌∙◌, sym, ap, List, Option, Some, None, MatchOption, Bor, arith, option_copied, get_or, length}
use Rattle.slots.specs.FiniteMap.{entry_at}
use Rattle.slots.proofs.PageLemmas.{entry_at-stored, entry_at-past}
use Rattle.slots.proofs.page.Page.get.Goals as goal

lent : {X : Type 0} (r : Option (Bor X)) (o e : Option X) → option_copied r ≡ o → e ≡ o → MatchOption r (e ≡ None) (λ x. e ≡ Some x.now)
lent None o e h d = d ∙ sym h
lent (Some x) o e h d = d ∙ sym h

pub returns-in-Some : goal.returns-in-Some
returns-in-Some g c =
    let Slots : Type 0 = List (Option g.row.T.Denot) in
    let count = ap (λ (slots : Slots). length slots) c.deref.ensures.value in
    let at = c.in-Some.ensures.lookup.1 ∙ ap (λ (slots : Slots). get_or slots c.args.slot c.in-Some.entry.now) c.deref.ensures.value in
    lent c.as_ref.result c.in-Some.entry.now (entry_at c.args.self.now c.args.slot) c.as_ref.ensures.value
    (ap (λ (slots : Slots). entry_at slots c.args.slot) (sym c.self.view_is)
    ∙ entry_at-stored c.self.inside.slots.items _ c.args.slot c.in-Some.entry.now (omega (arith, count, c.in-Some.ensures.lookup.3.0)) ∙ sym at)

pub returns-in-None : goal.returns-in-None
returns-in-None g c =
    let Slots : Type 0 = List (Option g.row.T.Denot) in
    let count = ap (λ (slots : Slots). length slots) c.deref.ensures.value in
    ap (λ (slots : Slots). entry_at slots c.args.slot) (sym c.self.view_is) ∙ entry_at-past c.self.inside.slots.items _ c.args.slot (omega (arith, count, c.in-None.ensures.lookup.3))
