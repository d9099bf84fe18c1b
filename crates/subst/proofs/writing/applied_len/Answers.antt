use Rattle.subst.proofs.Words.{◌≡◌, ℕ, ◌+◌, ◌-◌, List, Some, length, get_or, nat_eq, lookup, arith, sym, ◌∙◌, ap, SymbolRange, code_image, images_at, AreInside}
use Rattle.subst.proofs.WrittenImages.{len-take, len-within}
use Rattle.subst.proofs.SymbolRangeLemmas.{length-seen}
use Rattle.subst.proofs.ImageRangesLemmas.{image-some, image-none}
use Rattle.subst.proofs.writing.applied_len.Goals as goal
use Rattle.subst.proofs.writing.applied_len.Goals.{in-Some, in-None}

some-size : (symbols : List ℕ) (ps : List (ℕ × SymbolRange)) (x : ℕ) (p : SymbolRange) → AreInside (length symbols) ps → lookup (nat_eq x) ps ≡ Some p → p.end - p.start ≡ length (code_image (images_at symbols ps) x)
some-size symbols ps x p w is = let k = w.each x p is in sym (ap length (image-some symbols ps x p is) ∙ length-seen symbols p k.0 k.1)

pub returns-then-more-room-clause-none : goal.returns-then-more-room-clause-none
returns-then-more-room-clause-none c =
    let a = c.args in
    let l = c.loop-symbol in
    let size : c.match-get.more ≡ length (code_image (images_at a.symbols.now a.images.now) (get_or a.expr.now l.symbol-index 0)) = elim c.match-get.branch [
      | in-Some w ↦ w.more-is ∙ some-size a.symbols.now a.images.now _ w.in-Some.range c.requires (rw c.table-table.ensures at (sym c.get.ensures ∙ w.in-Some.is))
      | in-None w ↦ w.more-is ∙ sym (ap length (image-none a.symbols.now a.images.now (get_or a.expr.now l.symbol-index 0) (rw c.table-table.ensures at (sym c.get.ensures ∙ w.in-None.is))))
    ] in
    let σ = images_at a.symbols.now a.images.now in
    omega (arith, len-take σ a.expr.now l.symbol-index c.loop-symbol-test.true, len-within σ a.expr.now (l.symbol-index + 1), size, l.invariant.0, l.invariant.1, c.if-more-room.true)

pub loop-symbol-preserved : goal.loop-symbol-preserved
loop-symbol-preserved c =
    let a = c.args in
    let l = c.loop-symbol in
    let size : c.match-get.more ≡ length (code_image (images_at a.symbols.now a.images.now) (get_or a.expr.now l.symbol-index 0)) = elim c.match-get.branch [
      | in-Some w ↦ w.more-is ∙ some-size a.symbols.now a.images.now _ w.in-Some.range c.requires (rw c.table-table.ensures at (sym c.get.ensures ∙ w.in-Some.is))
      | in-None w ↦ w.more-is ∙ sym (ap length (image-none a.symbols.now a.images.now (get_or a.expr.now l.symbol-index 0) (rw c.table-table.ensures at (sym c.get.ensures ∙ w.in-None.is))))
    ] in
    (omega (arith, len-take (images_at a.symbols.now a.images.now) a.expr.now l.symbol-index c.loop-symbol-test.true, size, l.invariant.0), omega (arith, l.invariant.1, c.if-more-room.false))
