use Rattle.mm_read.proofs.Words.{subst, [], err_from_is_err_and, IsTokenAfter, IsNextToken}
use Rattle.mm_read.proofs.AfterFaults.{fault_back}
use Rattle.mm_read.proofs.parse.add_next.Goals as goal

pub returns-in_err-statement-clause-fault : goal.returns-in_err-statement-clause-fault
returns-in_err-statement-clause-fault c =
    let text = c.args.text.now in
    let first : IsTokenAfter text c.args.at c.in-Some.first = subst (IsNextToken text c.args.at) c.in-Some.is c.in_ok-first.ensures.next in
    let p = err_from_is_err_and c.from_residual-in_err-statement.result c.from_residual-in_err-statement.ensures.1 in
    rw (p.1, p.2) (fault_back text [] first.between _ c.in_err-statement.ensures.fault)

pub returns-clause-next : goal.returns-clause-next
returns-clause-next c =
    let text = c.args.text.now in
    let first : IsTokenAfter text c.args.at c.in-Some.first = subst (IsNextToken text c.args.at) c.in-Some.is c.in_ok-first.ensures.next in record {
      statement = c.in_ok-statement.statement;
      whole = c.in_ok-push.ensures.items;
      next_is = c.in_ok-statement.ensures.found c.args.at first.later first.between;
    }
