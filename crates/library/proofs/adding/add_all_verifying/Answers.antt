use Rattle.library.proofs.Words.{arith, take, AreShaped, rules}
use Rattle.library.specs.Added.{IsProvedAhead}
use Rattle.library.proofs.AheadLemmas.{added-ahead}
use Rattle.library.proofs.UnprovedLemmas.{ahead-later, shaped-front}
use Rattle.library.proofs.adding.add_all_verifying.Goals as goal

pub join_mut-requires-after_bounds : goal.join_mut-requires-after_bounds
join_mut-requires-after_bounds g c κs within =
    let shaped : AreShaped (take c.count_ahead-count.result c.args.statements.now) = shaped-front c.args.statements.now c.count_ahead-count.result c.requires.shaped in
    search rules

pub returns-clause-added : goal.returns-clause-added
returns-clause-added g c =
    let S = c.args.statements.now in
    let count = c.count_ahead-count.result in
    let proved = c.join_mut.result.0 in
    let told : IsProvedAhead (take count S) proved.0 proved.1 = search rules in
    let none = c.if-len-gt0.false in
    let len = c.len.ensures in
    added-ahead S proved.0 proved.1 c.join_mut.result.1 (omega (arith, none, len)) (ahead-later S count proved.0 proved.1 told) (search rules)
