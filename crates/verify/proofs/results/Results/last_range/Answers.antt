use Rattle.verify.proofs.Words.{◌≡◌, ◌∙◌, ◌<◌, ◌-◌, get_or, length, map, take, arith, ap, length-map, symbols_in}
use Rattle.verify.proofs.ResultPlaceLemmas.{range-last}
use Rattle.verify.proofs.results.Results.last_range.Goals as goal

pub returns : goal.returns
returns c =
    let xs = c.self.inside.symbols in let stack = c.self.inside.stack.items in let p = c.index.result.now in
    let some : 0 < length stack = (let r = c.requires in let all = ap (λ v. length v.results.stack) c.self.view_is in let same = length-map stack (symbols_in xs) in omega (arith, r, all, same)) in
    let l : c.len.result ≡ length stack = omega (arith, c.len.ensures) in
    let b = range-last xs stack p p c.self.invariant.stack_within some (c.index.ensures ∙ ap (λ n. get_or stack (n - 1) p) l) in
    rw (← c.self.view_is) (record { ordered = b.0; within = b.1; stack = map (symbols_in xs) (take (length stack - 1) stack); last = b.2 })
