use Rattle.std.proofs.Common.{◌∙◌, ap, sym, subst, ◌++◌, map, append-nil, IsPermutation, IsSorted, Bor}
use Rattle.mm_lex.specs.Alphabet.{Name}
use Rattle.scope.proofs.OrderedLemmas.{order, differ-told}
use Rattle.scope.proofs.legal.are_distinct_by_sorting.Goals as goal

pub returns : goal.returns
returns c =
    let ws = c.loop-word.ordered.items in
    let is = c.deref.ensures.value in
    let whole = sym (append-nil (map (λ (w : Bor Name). w.now) ws)) ∙ (ap (λ r. map (λ (w : Bor Name). w.now) ws ++ r) (sym c.in-None.ensures.steps.0) ∙ c.loop-word.invariant) in
    differ-told c.args.words.now ws c.deref.result.now _ whole (subst (IsPermutation ws) (sym is) c.sort_unstable.ensures.permutation)
    (subst (IsSorted order) (sym is) c.sort_unstable.ensures.sorted) c.are_neighbours_distinct.ensures.yes c.are_neighbours_distinct.ensures.no
