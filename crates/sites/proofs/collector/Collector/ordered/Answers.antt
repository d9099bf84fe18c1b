use Rattle.sites.proofs.ReferenceWords.{List, ℕ, ◌∙◌, subst, In, ListsExactly}
use Rattle.sites.proofs.collector.Collector.ordered.Goals as goal

pub returns : goal.returns
returns c =
    subst (λ (l : List ℕ). ListsExactly (λ p. In p l) c.sort_dedup.new.list.items) (c.in_ok-list.ensures.items ∙ (c.as_slice.ensures.value ∙ c.self.view_is)) c.sort_dedup.ensures
