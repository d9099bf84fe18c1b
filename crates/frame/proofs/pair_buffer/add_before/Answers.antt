use Rattle.frame.proofs.Words.{◌+◌, ℕ, List, Bool, cond, take, get_or, sym, ◌∙◌, ap, subst, with_number, AddsBefore}
use Rattle.frame.proofs.PairListLemmas.{adds-more}
use Rattle.frame.proofs.pair_buffer.add_before.Goals as goal
use Rattle.frame.proofs.pair_buffer.add_before.Goals.{then-is_before+in_ok-add_number, else-is_before}

pub loop-symbol-preserved : goal.loop-symbol-preserved
loop-symbol-preserved c =
    let before = take c.args.index c.args.variables.now in
    let n = c.loop-symbol.symbol-index in
    let x = get_or c.args.symbols.now n 0 in
    let list = c.loop-symbol.list in
    let P = λ (l : List ℕ). AddsBefore before (take (n + 1) c.args.symbols.now) c.args.list.now l in
    let more = adds-more before c.args.symbols.now c.args.list.now list n c.loop-symbol-test.true c.loop-symbol.invariant in
    elim c.if-is_before.branch [
      | then-is_before+in_ok-add_number w ↦
          rw w.list-is (subst P (ap (λ (b : Bool). cond b (with_number list x) list) (sym c.is_before.ensures ∙ w.if-is_before.true) ∙ sym w.in_ok-add_number.ensures.added) more)
      | else-is_before w ↦ rw w.list-is (subst P (ap (λ (b : Bool). cond b (with_number list x) list) (sym c.is_before.ensures ∙ w.if-is_before.false)) more)
    ]
