use Rattle.frame.proofs.Words.{◌≡◌, ◌<◌, ◌∙◌, ap, sym, subst, [], length, take, get_or, slice_get, Some, slice_get-get_or, rules}
use Rattle.frame.proofs.ActiveDisjointLemmas.{below-at}
use Rattle.frame.proofs.PairListLemmas.{IsFound, found-end}
use Rattle.frame.proofs.pair_buffer.PairBuffer.fill.Goals as goal

pub disjoints_with-disjoints-requires : goal.disjoints_with-disjoints-requires
disjoints_with-disjoints-requires c =
    let n = length c.args.pairs.now.names in
    subst (λ xs. get_or xs c.args.index 0 < n) (sym (c.as_slice.ensures ∙ ap (λ v. v.variables) c.self.view_is)) (below-at n c.args.self.now.variables c.args.index 0 c.requires.below c.requires.index)

pub returns-clause-list : goal.returns-clause-list
returns-clause-list c =
    let variables = c.args.self.now.variables in
    let x = get_or c.as_slice.result.now c.args.index 0 in
    let same = c.as_slice.ensures ∙ ap (λ v. v.variables) c.self.view_is in
    let stands : slice_get variables c.args.index ≡ Some x = slice_get-get_or variables c.args.index 0 c.requires.index ∙ ap (λ xs. Some (get_or xs c.args.index 0)) (sym same) in
    let none : c.loop-symbols.disjoints ≡ [] = search rules in
    found-end c.args.pairs.now variables c.args.index x c.disjoints_with-disjoints.result c.loop-symbols.disjoints c.loop-symbols.self-inside.list stands c.requires.below c.disjoints_with-disjoints.ensures.pairs none
    (subst (λ vs. IsFound (take c.args.index vs) x c.disjoints_with-disjoints.result c.loop-symbols.disjoints c.loop-symbols.self-inside.list) (ap (λ v. v.variables) c.self.view_is) c.loop-symbols.invariant.found)
