use Rattle.cluster.proofs.Words.{ℕ, List, Option, slice_get, ap, ◌∙◌, option_map, Bor, Carried, entry_of}
use Rattle.cluster.proofs.CellLemmas.{entry_is, applied_cell, applied_seen}
use Rattle.cluster.proofs.cell.apply_on.Goals as goal

pub invariant_of-cell : goal.invariant_of-cell
invariant_of-cell c =
    applied_cell c.cell.inside.node c.cell.inside.entries.items c.cell.inside.node_library c.apply_next.new.self c.cell.invariant
    (option_map (λ (e : Bor (Option Carried)). entry_of e.now) c.entry_at-next.result) (entry_is c.cell.inside.entries.items c.cell.inside.node_library.applied c.entry_at-next.result (c.entry_at-next.ensures ∙ ap (λ (es : List (Option Carried)). slice_get es c.applied.result) c.deref.ensures.value ∙ ap (λ (i : ℕ). slice_get c.cell.inside.entries.items i) c.applied.ensures)) c.apply_next.result c.apply_next.ensures

pub returns-clause-applies : goal.returns-clause-applies
returns-clause-applies c =
    applied_seen c.cell.inside.node c.cell.inside.entries.items c.cell.inside.node_library c.apply_next.new.self c.args.cell.now c.cell.view_is
    (option_map (λ (e : Bor (Option Carried)). entry_of e.now) c.entry_at-next.result) (entry_is c.cell.inside.entries.items c.cell.inside.node_library.applied c.entry_at-next.result (c.entry_at-next.ensures ∙ ap (λ (es : List (Option Carried)). slice_get es c.applied.result) c.deref.ensures.value ∙ ap (λ (i : ℕ). slice_get c.cell.inside.entries.items i) c.applied.ensures)) c.apply_next.result c.apply_next.ensures
