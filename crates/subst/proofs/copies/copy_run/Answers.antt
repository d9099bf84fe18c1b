use Rattle.subst.proofs.Words.{◌+◌, arith, refl, ◌∙◌, length-put_chunk, chunk}
use Rattle.subst.proofs.CopyLemmas.{copy-first, copy-on}
use Rattle.subst.proofs.copies.copy_run.Goals as goal

pub loop-done-init : goal.loop-done-init
loop-done-init c =
    let a = c.args in
    let x = a.symbols.now in (copy-first x a.from a.len a.at c.requires.before c.requires.room, length-put_chunk a.at x (chunk a.from 16 x))

pub loop-done-preserved : goal.loop-done-preserved
loop-done-preserved c =
    let a = c.args in
    let l = c.loop-done in (
      copy-on l.symbols a.symbols.now _ a.from a.len a.at l.done c.requires.before (omega arith) (omega arith) l.invariant.0 (omega arith) refl,
      length-put_chunk (a.at + l.done) l.symbols (chunk (a.from + l.done) 16 l.symbols) ∙ l.invariant.1,
    )
