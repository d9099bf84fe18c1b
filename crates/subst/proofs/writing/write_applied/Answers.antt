use Rattle.subst.proofs.Words.{take, get_or, arith, sym, ◌∙◌}
use Rattle.subst.proofs.ImageRangesLemmas.{image-some, image-none}
use Rattle.subst.proofs.CopyLemmas.{fill-on, fill-lacks, kept-on, written-kept}
use Rattle.subst.proofs.writing.write_applied.Goals as goal
use Rattle.subst.proofs.writing.write_applied.Goals.{in-Some+in_ok-end-in-Some, in-None}

pub returns-in_err-end-in-Some-clause-none : goal.returns-in_err-end-in-Some-clause-none
returns-in_err-end-in-Some-clause-none c =
    let a = c.args in
    let l = c.loop-symbol in
    let lacks = fill-lacks a.symbols.now l.symbols _ a.images.now a.expr.now l.symbol-index a.at l.end _ c.requires.within c.requires.inside c.loop-symbol-test.true l.invariant.written
    (image-some (take l.end l.symbols) a.images.now (get_or a.expr.now l.symbol-index 0) c.in-Some.range (rw c.table-table.ensures at (sym c.get.ensures ∙ c.in-Some.is))) c.in_err-end-in-Some.ensures.none in
    let room = l.invariant.room in
    rw c.from_residual.ensures (omega (arith, lacks, room))

pub returns-in_err-end-in-Some-clause-kept : goal.returns-in_err-end-in-Some-clause-kept
returns-in_err-end-in-Some-clause-kept c =
    let moved = c.loop-symbol.invariant.written.moved in
    kept-on c.args.symbols.now c.loop-symbol.symbols _ c.args.at c.loop-symbol.end (omega (arith, moved)) c.copy_range.ensures.kept
    (written-kept c.args.symbols.now c.loop-symbol.symbols _ c.args.at c.loop-symbol.end c.requires.inside c.loop-symbol.invariant.written)

pub loop-symbol-preserved : goal.loop-symbol-preserved
loop-symbol-preserved c =
    let a = c.args in
    let l = c.loop-symbol in
    let more = c.loop-symbol-test.true in
    let so = l.invariant.few in
    elim c.match-get.branch [
      | in-Some+in_ok-end-in-Some w ↦ rw (w.symbols-is, w.end-is) (record {
        written = fill-on a.symbols.now l.symbols _ _ a.images.now a.expr.now l.symbol-index a.at l.end _ c.requires.within c.requires.inside more l.invariant.written
            (image-some (take l.end l.symbols) a.images.now (get_or a.expr.now l.symbol-index 0) w.in-Some.range (rw c.table-table.ensures at (sym c.get.ensures ∙ w.in-Some.is))) w.in_ok-end-in-Some.ensures.some;
        few = (let last = w.in_ok-end-in-Some.ensures.within in omega (arith, last));
        room = l.invariant.room;
        count = w.copy_range.ensures.count ∙ l.invariant.count;
      })
      | in-None w ↦ rw (w.symbols-is, w.end-is) (record {
        written = fill-on a.symbols.now l.symbols _ _ a.images.now a.expr.now l.symbol-index a.at l.end _ c.requires.within c.requires.inside more l.invariant.written
            (image-none (take l.end l.symbols) a.images.now (get_or a.expr.now l.symbol-index 0) (rw c.table-table.ensures at (sym c.get.ensures ∙ w.in-None.is))) w.put_symbol-end.ensures.written;
        few = (let moved = w.put_symbol-end.ensures.written.moved in omega (arith, moved, so));
        room = l.invariant.room;
        count = w.put_symbol-end.ensures.count ∙ l.invariant.count;
      })
    ]

pub returns-clause-kept : goal.returns-clause-kept
returns-clause-kept c = written-kept c.args.symbols.now c.loop-symbol.symbols _ c.args.at c.loop-symbol.end c.requires.inside (let w = c.loop-symbol.invariant.written in w)
