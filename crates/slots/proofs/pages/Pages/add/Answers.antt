use Rattle.slots.proofs.Words.{◌∙◌, ◌++◌, ◌*◌, ap, replicate, List, Option, None, joined}
use Rattle.slots.proofs.PagesLemmas.{joined-append, full_size-append}
use Rattle.slots.proofs.pages.Pages.add.Goals as goal

pub invariant_of-self-2 : goal.invariant_of-self-2
invariant_of-self-2 g c =
    rw c.in_ok-append.ensures.items (full_size-append c.self.inside.pages.items c.in_ok-more.more.items c.self.invariant c.in_ok-more.ensures.full_size)

pub returns-clause-added : goal.returns-clause-added
returns-clause-added g c =
    rw c.in_ok-append.ensures.items
    (joined-append c.self.inside.pages.items c.in_ok-more.more.items
    ∙ ap (λ (slots : List (Option g.row.T.Denot)). joined c.self.inside.pages.items ++ slots) c.in_ok-more.ensures.empty
    ∙ ap (λ (slots : List (Option g.row.T.Denot)). slots ++ replicate (256 * c.args.count) None) c.self.view_is)
