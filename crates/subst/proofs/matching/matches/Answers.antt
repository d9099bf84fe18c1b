use Rattle.subst.proofs.Words.{◌≡◌, ℕ, List, ◌-◌, ◌++◌, take, drop, true, false, slice_range, take_all, append-nil, eqb-true, eq-eqb, sym, ◌∙◌, ap, arith, code_apply, images_at, symbols_in}
use Rattle.subst.proofs.MatchLemmas.{match-fails, match-goes, range-left}
use Rattle.subst.proofs.matching.matches.Goals as goal

pub returns-in-None : goal.returns-in-None
returns-in-None c =
    let a = c.args in
    let l = c.loop-symbol in (
      λ h. let e : false ≡ true = h in cc,
      λ h. absurd (match-fails (images_at a.symbols.now a.images.now) a.expr.now (symbols_in a.symbols.now a.range) (slice_range a.symbols.now l.at a.range.end) l.symbol-index c.loop-symbol-test.true l.invariant.1 (rw c.table-table.ensures at c.in-None.ensures.none) h),
    )

pub loop-symbol-preserved : goal.loop-symbol-preserved
loop-symbol-preserved c =
    let a = c.args in
    let l = c.loop-symbol in (
      c.in-Some.ensures.some.0,
      match-goes (images_at a.symbols.now a.images.now) a.expr.now (symbols_in a.symbols.now a.range) (slice_range a.symbols.now l.at a.range.end) (slice_range a.symbols.now c.in-Some.next a.range.end) l.symbol-index c.loop-symbol-test.true l.invariant.1
          (rw c.table-table.ensures at c.in-Some.ensures.some.1),
    )

pub returns : goal.returns
returns c =
    let a = c.args in
    let l = c.loop-symbol in
    let s = a.symbols.now in
    let applied : List ℕ = code_apply (images_at s a.images.now) a.expr.now in
    let front : symbols_in s a.range ≡ applied ++ slice_range s l.at a.range.end =
    l.invariant.1 ∙ ap (λ e. code_apply (images_at s a.images.now) e ++ slice_range s l.at a.range.end) (take_all l.symbol-index a.expr.now c.loop-symbol-test.false) in (
      λ yes. front ∙ (ap (λ n. applied ++ take n (drop l.at s)) (let none : a.range.end - l.at ≡ 0 = omega (arith, eqb-true l.at a.range.end yes) in none) ∙ append-nil applied),
      λ same. eq-eqb l.at a.range.end (range-left s applied l.at a.range.end l.invariant.0 c.requires.range.1 (sym front ∙ same)),
    )
