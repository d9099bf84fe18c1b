use Rattle.std.proofs.Common.{List, sym, ◌∙◌, subst, refl}
use Rattle.nodes.specs.declared.moment.Moment.{Moment}
use Rattle.nodes.specs.Runs.{IsRun}
use Rattle.nodes.proofs.BookLemmas.{kept_new}
use Rattle.nodes.proofs.book.Opened.named.Goals as goal

pub invariant_of-result : goal.invariant_of-result
invariant_of-result g c = (c.self.view_is ∙ c.requires, subst (λ (ms : List Moment). IsRun ms) (sym c.self.invariant.0) (kept_new 258 refl).run)
