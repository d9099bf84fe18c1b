use Rattle.subst.proofs.Words.{◌+◌, arith, take_all}
use Rattle.subst.proofs.ImageTableLemmas.{up_to-more, up_to-set}
use Rattle.subst.proofs.symbol_set.SymbolSet.add.Goals as goal
use Rattle.subst.proofs.symbol_set.SymbolSet.add.Goals.{then-index-len+in_ok-resize, else-index-len}

pub invariant_of-self-2 : goal.invariant_of-self-2
invariant_of-self-2 c =
    let stamp = c.self.inside.stamp in
    let stamps = c.self.inside.stamps.items in
    elim c.if-index-len.branch [
      | then-index-len+in_ok-resize w ↦
          let whole = take_all (c.args.symbol + 1) stamps (omega (arith, w.if-index-len.true, c.len.ensures, c.self.inside.stamps.ok.0)) in
          rw w.self-inside-is (c.self.invariant.0, up_to-set stamp _ c.args.symbol stamp (rw w.in_ok-resize.ensures.items (rw whole (up_to-more stamp stamps _ c.self.invariant.1))) (omega arith))
      | else-index-len w ↦ rw w.self-inside-is (c.self.invariant.0, up_to-set stamp stamps c.args.symbol stamp c.self.invariant.1 (omega arith))
    ]
