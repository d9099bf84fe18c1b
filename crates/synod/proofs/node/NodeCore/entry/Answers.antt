use Rattle.synod.proofs.Words.{◌≡◌, ◌∙◌, ap, sym, arith, slice_get, slice_get_past, entry_at, entries_to_gap, Core, log_of}
use Rattle.synod.proofs.LogLemmas.{gap_entry}
use Rattle.synod.proofs.node.NodeCore.entry.Goals as goal

pub returns-then-slot-first_gap-clause-entry : goal.returns-then-slot-first_gap-clause-entry
returns-then-slot-first_gap-clause-entry g c =
    let same : slice_get (log_of c.args.self.now.node) c.args.slot ≡ entry_at c.self.inside.learner.state.learned c.args.slot =
    ap (λ (core : Core g.row.V.Denot). slice_get (log_of core.node) c.args.slot) (sym c.self.view_is)
    ∙ gap_entry c.self.inside.learner.state.learned c.args.slot (omega (arith, c.first_gap.ensures.front, c.if-slot-first_gap.true)) in
    rw same c.learned.ensures

pub returns-else-slot-first_gap-clause-entry : goal.returns-else-slot-first_gap-clause-entry
returns-else-slot-first_gap-clause-entry g c =
    ap (λ (core : Core g.row.V.Denot). slice_get (log_of core.node) c.args.slot) (sym c.self.view_is)
    ∙ slice_get_past (entries_to_gap c.self.inside.learner.state.learned) c.args.slot (omega (arith, c.first_gap.ensures.front, c.if-slot-first_gap.false))
