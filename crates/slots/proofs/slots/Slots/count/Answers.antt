use Rattle.slots.proofs.Words.{◌∙◌, sym, ap, SlotsView, count_by, is_some}
use Rattle.slots.proofs.FiniteMapLemmas.{entry_count-trimmed}
use Rattle.slots.proofs.slots.Slots.count.Goals as goal

pub returns : goal.returns
returns g c = c.self.invariant.count_is ∙ sym (entry_count-trimmed c.self.inside.pages) ∙ ap (λ (v : SlotsView g.row.T.Denot). count_by is_some v.entries) c.self.view_is
