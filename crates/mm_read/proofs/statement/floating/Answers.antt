use Rattle.std.proofs.lemmas.Result.{err_from_is_err_and}
use Rattle.mm_read.proofs.AfterFaults.{constant_fault, variable_fault, end_fault}
use Rattle.mm_read.proofs.NextLemmas.{floating_next}
use Rattle.mm_read.proofs.statement.floating.Goals as goal

pub returns-in_err-constant-clause-fault : goal.returns-in_err-constant-clause-fault
returns-in_err-constant-clause-fault c =
    let p = err_from_is_err_and c.from_residual.result c.from_residual.ensures.1 in
    rw (p.1, p.2) (constant_fault c.args.text.now c.args.at c.args.label.now c.requires.label _ c.in_err-constant.ensures.fault)

pub returns-in_err-variable-clause-fault : goal.returns-in_err-variable-clause-fault
returns-in_err-variable-clause-fault c =
    let p = err_from_is_err_and c.from_residual-in_err-variable.result c.from_residual-in_err-variable.ensures.1 in
    let first = c.in_ok-constant.ensures in
    rw (p.1, p.2)
    (variable_fault c.args.text.now c.args.at c.args.label.now c.requires.label c.in_ok-constant.constant first.symbol first.between _ c.in_err-variable.ensures.fault)

pub returns-in_err-next-clause-fault : goal.returns-in_err-next-clause-fault
returns-in_err-next-clause-fault c =
    let p = err_from_is_err_and c.from_residual-in_err-next.result c.from_residual-in_err-next.ensures.1 in
    let first = c.in_ok-constant.ensures in
    let second = c.in_ok-variable.ensures in
    rw (p.1, p.2)
    (end_fault c.args.text.now c.args.at c.args.label.now c.requires.label c.in_ok-constant.constant c.in_ok-variable.variable first.symbol second.symbol first.between second.between
    _ c.in_err-next.ensures.fault)

pub returns-clause-found : goal.returns-clause-found
returns-clause-found c = λ from later has.
    let first = c.in_ok-constant.ensures in
    let second = c.in_ok-variable.ensures in
    floating_next c.in_ok-label.label c.args.label.now c.in_ok-label.ensures c.requires.label later has first.between second.between c.in_ok-next.ensures.between first.symbol second.symbol
