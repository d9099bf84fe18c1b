use Rattle.sites.proofs.ReferenceWords.{◌++◌, List, ℕ, filter_map, ap, ◌∙◌, subst, In, ListsExactly, cited_position}
use Rattle.sites.proofs.CitationLemmas.{those-cited}
use Rattle.sites.proofs.citations.cited_positions.Goals as goal

pub returns : goal.returns
returns c =
    let numbers = c.parts-parts.result.numbers.now in
    those-cited c.args.frames.now.statements c.parts-parts.result.labels.now c.in_ok-positions.positions.items c.in_ok-positions.ensures.found c.requires numbers c.args.items.now c.sort_dedup.new.list.items c.parts-parts.ensures
    (subst (λ (l : List ℕ). ListsExactly (λ p. In p l) c.sort_dedup.new.list.items)
    (c.in_ok-push_positions.ensures
    ∙ (ap (λ (l : List ℕ). l ++ filter_map (cited_position c.as_slice.result.now) numbers) c.new-cited.ensures.items
    ∙ ap (λ ps. filter_map (cited_position ps) numbers) c.as_slice.ensures.value))
    c.sort_dedup.ensures)
