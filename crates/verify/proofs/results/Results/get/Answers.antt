use Rattle.verify.proofs.Words.{◌≤◌, Some, length, arith, sym, subst, ap, ◌∙◌, slice_get, length-map, symbols_in}
use Rattle.verify.proofs.ResultPlaceLemmas.{saved-at, get-map-some}
use Rattle.verify.proofs.results.Results.get.Goals as goal

pub symbols_at-requires : goal.symbols_at-requires
symbols_at-requires c =
    let xs = c.self.inside.symbols in let stack = c.self.inside.stack.items in let p = c.index-place.result.now in
    subst (λ ys. (p.start ≤ p.end) × (p.end ≤ length ys)) (sym c.as_slice.ensures.symbols)
    (saved-at (length xs) c.args.index stack p p c.self.invariant.stack_within
    (let less = c.requires in let all = ap (λ v. length v.results.stack) c.self.view_is in let same = length-map stack (symbols_in xs) in omega (arith, less, all, same)) c.index-place.ensures)

pub returns : goal.returns
returns c =
    let xs = c.self.inside.symbols in let stack = c.self.inside.stack.items in let p = c.index-place.result.now in
    ap (λ v. slice_get v.results.stack c.args.index) (sym c.self.view_is)
    ∙ (get-map-some (symbols_in xs) stack c.args.index p (let less = c.requires in let all = ap (λ v. length v.results.stack) c.self.view_is in let same = length-map stack (symbols_in xs) in omega (arith, less, all, same))
    ∙ ap Some (ap (symbols_in xs) (sym c.index-place.ensures) ∙ (ap (λ ys. symbols_in ys p) (sym c.as_slice.ensures.symbols) ∙ sym c.symbols_at.ensures)))
