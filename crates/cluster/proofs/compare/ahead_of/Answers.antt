use Rattle.cluster.proofs.Words.{length, ap, arith, Database}
use Rattle.cluster.proofs.CompareLemmas.{is_first, is_second, are_same}
use Rattle.cluster.proofs.compare.ahead_of.Goals as goal

pub returns-then-first-second : goal.returns-then-first-second
returns-then-first-second c = λ agree.
    let first = ap (λ (ss : Database). length ss) c.statements-first.ensures.statements in
    let second = ap (λ (ss : Database). length ss) c.statements-second.ensures.statements in
    is_first c.args.one.now.replica.statements c.args.other.now.replica.statements agree (omega (arith, first, second, c.if-first-second.true))

pub returns-then-first-second-2 : goal.returns-then-first-second-2
returns-then-first-second-2 c = λ agree.
    let first = ap (λ (ss : Database). length ss) c.statements-first.ensures.statements in
    let second = ap (λ (ss : Database). length ss) c.statements-second.ensures.statements in
    is_second c.args.one.now.replica.statements c.args.other.now.replica.statements agree (omega (arith, first, second, c.if-first-second-2.true))

pub returns-else-first-second-2 : goal.returns-else-first-second-2
returns-else-first-second-2 c = λ agree.
    let first = ap (λ (ss : Database). length ss) c.statements-first.ensures.statements in
    let second = ap (λ (ss : Database). length ss) c.statements-second.ensures.statements in
    are_same c.args.one.now.replica.statements c.args.other.now.replica.statements agree (omega (arith, first, second, c.if-first-second.false)) (omega (arith, first, second, c.if-first-second-2.false))
