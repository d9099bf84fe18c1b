use Rattle.subst.proofs.Words.{◌≡◌, ◌+◌, ◌-◌, ◌≤◌, true, false, take, drop, arith, sym, ◌∙◌, ap, take_rest, symbols_in}
use Rattle.subst.proofs.SymbolRangeLemmas.{length-seen}
use Rattle.subst.proofs.MatchLemmas.{front-goes, front-fails}
use Rattle.subst.proofs.matching.skip_range.Goals as goal

pub returns-then-end-at-clause-none : goal.returns-then-end-at-clause-none
returns-then-end-at-clause-none c more =
    let a = c.args in
    front-fails a.symbols.now (symbols_in a.symbols.now a.range) more a.at a.end c.requires.rest.0 c.requires.rest.1
    (λ fits. absurd (omega (arith, fits, length-seen a.symbols.now a.range c.requires.image.0 c.requires.image.1, c.if-end-at.true)))

pub returns-then-have_same_prefix-clause-some : goal.returns-then-have_same_prefix-clause-some
returns-then-have_same_prefix-clause-some c =
    let a = c.args in
    let s = a.symbols.now in
    let len = a.range.end - a.range.start in
    let fits : a.at + len ≤ a.end = omega (arith, c.requires.rest.0, c.if-end-at.false) in
    (fits, front-goes s (symbols_in s a.range) a.at a.end len fits (ap (take len) (sym (take_rest s a.range.start)) ∙ (c.have_same_prefix.ensures.0 c.if-have_same_prefix.true ∙ ap (take len) (take_rest s a.at))))

pub returns-else-have_same_prefix-clause-none : goal.returns-else-have_same_prefix-clause-none
returns-else-have_same_prefix-clause-none c more =
    let a = c.args in
    let s = a.symbols.now in
    let len = a.range.end - a.range.start in
    front-fails s (symbols_in s a.range) more a.at a.end c.requires.rest.0 c.requires.rest.1
    (λ fits same.
    let equal = same ∙ ap (λ n. take n (drop a.at s)) (length-seen s a.range c.requires.image.0 c.requires.image.1) in
    let e : false ≡ true = sym c.if-have_same_prefix.false ∙ c.have_same_prefix.ensures.1 (ap (take len) (take_rest s a.range.start) ∙ (equal ∙ ap (take len) (sym (take_rest s a.at)))) in cc)
