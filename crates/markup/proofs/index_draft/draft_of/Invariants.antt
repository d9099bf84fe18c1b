use Rattle.std.proofs.Common.{◌≡◌, map, drop}
use Rattle.markup.specs.IndexItems.{item_view}
use Rattle.markup.specs.Drafts.{state_of, start, with_items}
use Rattle.markup.proofs.index_draft.draft_of.Given as goal

abbrev pub invariant-loop-item : goal.invariant-loop-item
invariant-loop-item l =
    with_items l.sources.statements.now l.sources.is_unproved.now (state_of l.draft) (map item_view (drop l.item-index l.items))
    ≡ with_items l.sources.statements.now l.sources.is_unproved.now start (map item_view l.items)
