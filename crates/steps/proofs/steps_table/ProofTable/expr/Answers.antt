use Rattle.std.proofs.Common.{◌≤◌, arith, length, sym, ap, subst}
use Rattle.steps.proofs.DraftLemmas.{got-within}
use Rattle.steps.proofs.steps_table.ProofTable.expr.Goals as goal

pub symbols_at-requires : goal.symbols_at-requires
symbols_at-requires c =
    let h = got-within c.self.inside.symbols (length c.self.inside.symbols) c.self.inside.stored.items c.args.place c.index.result.now c.index.result.now c.self.invariant (let l = ap length c.self.view_is in let r = c.requires in omega (arith, l, r)) c.index.ensures in
    (h.0, subst (λ s. c.index.result.now.range.end ≤ length s) (sym c.as_slice.ensures.symbols) h.1)
