use Rattle.mm_read.proofs.Words.{◌++◌, ◌+◌, ◌-◌, ◌≡◌, [], arith, length, subst, err_from_is_err_and, after_on, stops_after, tokens_of, IsShapeFault, IsFaultAfter}
use Rattle.mm_read.proofs.StatementByStatement.{fault_after}
use Rattle.mm_read.proofs.NextLemmas.{count_before}
use Rattle.mm_read.proofs.parse.whole_text_fault.Goals as goal

pub returns-in_err-count_tokens-in-Memory-clause-comment : goal.returns-in_err-count_tokens-in-Memory-clause-comment
returns-in_err-count_tokens-in-Memory-clause-comment c =
    let p = err_from_is_err_and c.from_residual.result c.from_residual.ensures.1 in
    rw (p.1, p.2) (stops_after c.requires.before.1.between _ c.in_err-count_tokens-in-Memory.ensures.fault)

pub returns-in_err-count_after-in-Shape-clause-comment : goal.returns-in_err-count_after-in-Shape-clause-comment
returns-in_err-count_after-in-Shape-clause-comment c =
    let p = err_from_is_err_and c.from_residual-in_err-count_after-in-Shape.result c.from_residual-in_err-count_after-in-Shape.ensures.1 in
    rw (p.1, p.2) (stops_after c.requires.before.1.between _ c.in_err-count_after-in-Shape.ensures.fault)

pub overflow_sub-result : goal.overflow_sub-result
overflow_sub-result c =
    let counts = count_before c.args.text.now c.args.at c.requires.before.0 c.requires.before.1 _ _ c.in_ok-count_after-in-Shape.ensures.count c.in_ok-count_all-in-Shape.ensures.count in
    omega (arith, counts)

pub returns-in-Text-clause-comment : goal.returns-in-Text-clause-comment
returns-in-Text-clause-comment c =
    stops_after c.requires.before.1.between c.in-Text.lex (subst (IsFaultAfter c.args.text.now [] c.args.at) c.in-Text.is c.requires.fault)

pub returns-in_ok-count_tokens-in-Memory-clause-fault : goal.returns-in_ok-count_tokens-in-Memory-clause-fault
returns-in_ok-count_tokens-in-Memory-clause-fault c =
    let rest = c.in_ok-count_tokens-in-Memory.ensures.count in
    (tokens_of c.requires.before.0 ++ rest.0, after_on c.requires.before.1.between rest.1)

pub returns-in_ok-count_all-in-Shape-clause-fault : goal.returns-in_ok-count_all-in-Shape-clause-fault
returns-in_ok-count_all-in-Shape-clause-fault c =
    let text = c.args.text.now in
    let before = c.requires.before in
    let rest = c.in_ok-count_after-in-Shape.ensures.count in
    let counts = count_before text c.args.at before.0 before.1 _ _ rest c.in_ok-count_all-in-Shape.ensures.count in
    let stop : IsShapeFault rest.0 c.in-Shape.token = subst (IsFaultAfter text [] c.args.at) c.in-Shape.is c.requires.fault rest.0 rest.1 in
    let number : length (tokens_of before.0) + c.in-Shape.token ≡ c.in_ok-count_all-in-Shape.count_all - c.in_ok-count_after-in-Shape.count_after + c.in-Shape.token = omega (arith, counts) in (
      tokens_of before.0 ++ rest.0,
      after_on before.1.between rest.1,
      subst (IsShapeFault (tokens_of before.0 ++ rest.0)) number (fault_after before.0 before.1.shaped rest.0 c.in-Shape.token stop),
    )
