use Rattle.slots.proofs.Words.{◌∙◌, sym, ap, arith, SlotsView, front_of}
use Rattle.slots.proofs.FiniteMapLemmas.{front_of-trimmed, front_of-le}
use Rattle.slots.proofs.slots.Slots.front.Goals as goal

pub returns-clause-front : goal.returns-clause-front
returns-clause-front g c =
    c.self.invariant.front_is ∙ sym (front_of-trimmed c.self.inside.pages) ∙ ap (λ (v : SlotsView g.row.T.Denot). front_of v.entries) c.self.view_is

pub returns-clause-within : goal.returns-clause-within
returns-clause-within g c = omega (arith, c.self.invariant.within, c.self.invariant.front_is, front_of-le c.self.inside.pages)
