use Rattle.synod.proofs.Words.{◌∙◌, ◌++◌, ◌∷◌, [], ℕ, List, Option, ap, sym, get_or, take, map-append, take_more, SlotsView, SlotReport, no_pages, entries_of}
use Rattle.synod.proofs.promise_pages.ReceivedPages.for_nodes.Goals as goal

pub loop-weight-preserved : goal.loop-weight-preserved
loop-weight-preserved g c =
    ap (λ (maps : List (SlotsView (List (SlotReport g.row.V.Denot)))). entries_of maps) c.in_ok-push.ensures.items
    ∙ map-append (λ (m : SlotsView (List (SlotReport g.row.V.Denot))). m.entries) c.loop-weight.by_node.items (c.new.result ∷ [])
    ∙ ap (λ (maps : List (List (Option (List (SlotReport g.row.V.Denot))))). maps ++ c.new.result.entries ∷ []) c.loop-weight.invariant
    ∙ ap (λ (m : List (Option (List (SlotReport g.row.V.Denot)))). no_pages (take c.loop-weight._weight-index c.as_slice-weight-items.result.now) ++ m ∷ []) c.new.ensures.entries
    ∙ sym (map-append (λ (w : ℕ). []) (take c.loop-weight._weight-index c.as_slice-weight-items.result.now) (get_or c.as_slice-weight-items.result.now c.loop-weight._weight-index 0 ∷ []))
    ∙ ap (λ (ws : List ℕ). no_pages ws) (sym (take_more c.as_slice-weight-items.result.now c.loop-weight._weight-index 0 c.loop-weight-test.true))
