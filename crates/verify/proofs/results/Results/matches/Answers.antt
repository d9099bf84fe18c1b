use Rattle.verify.proofs.Words.{length, arith, ap, length-map, symbols_in}
use Rattle.verify.proofs.ResultPlaceLemmas.{saved-at}
use Rattle.verify.proofs.results.Results.matches.Goals as goal

pub matches-requires-clause-range : goal.matches-requires-clause-range
matches-requires-clause-range c =
    let xs = c.self.inside.symbols in let stack = c.self.inside.stack.items in let p = c.index.result.now in
    saved-at (length xs) c.args.index stack p p c.self.invariant.stack_within
    (let less = c.requires in let all = ap (λ v. length v.results.stack) c.self.view_is in let same = length-map stack (symbols_in xs) in omega (arith, less, all, same)) c.index.ensures
