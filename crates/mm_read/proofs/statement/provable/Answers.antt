use Rattle.mm_read.proofs.Words.{◌≤◌, ◌+◌, ◌∷◌, ◌++◌, [], length, codes, subst, arith, length-append, err_from_is_err_and, between_few, IsCommentFaultAfter, stops_after, IsListFault, HasBrokenList}
use Rattle.mm_read.proofs.StatementsLemmas.{are_symbols_of}
use Rattle.mm_read.proofs.AfterFaults.{expr_fault, proof_fault}
use Rattle.mm_read.proofs.NextLemmas.{provable_next}
use Rattle.mm_read.proofs.statement.provable.Goals as goal

pub returns-in_err-expr-clause-fault : goal.returns-in_err-expr-clause-fault
returns-in_err-expr-clause-fault c =
    let p = err_from_is_err_and c.from_residual.result c.from_residual.ensures.1 in
    rw (p.1, p.2) (expr_fault c.args.text.now c.args.at c.args.label.now c.requires.label _ c.in_err-expr.ensures.fault)

pub returns-in-Ok-clause-found : goal.returns-in-Ok-clause-found
returns-in-Ok-clause-found c = λ from later has.
    let expr = c.in_ok-expr.ensures in
    let proof = c.in-Ok.ensures in
    provable_next c.in_ok-label-in-Ok.label c.args.label.now c.in_ok-label-in-Ok.ensures c.requires.label later has expr.between proof.between
    (are_symbols_of c.in_ok-expr.expr expr.symbols expr.many) proof.symbols

pub overflow_add-result : goal.overflow_add-result
overflow_add-result c =
    let expr = c.in_ok-expr.expr in
    let has = c.in_ok-expr.ensures.between in
    let few = between_few c.args.text.now c.args.at c.in_ok-expr.after (expr ++ codes "$=" ∷ []) has in
    omega (arith, few, length-append expr (codes "$=" ∷ []), has.within, c.len.ensures)

pub overflow_add-result-in-Err-Shape : goal.overflow_add-result-in-Err-Shape
overflow_add-result-in-Err-Shape c =
    let text = c.args.text.now in
    let expr = c.in_ok-expr.expr in
    let has = c.in_ok-expr.ensures.between in
    let few : length (expr ++ codes "$=" ∷ []) + c.args.at ≤ c.in_ok-expr.after = between_few text c.args.at c.in_ok-expr.after (expr ++ codes "$=" ∷ []) has in
    let is : HasBrokenList text c.in_ok-expr.after 1 0 (codes "$.") c.in-Err-Shape.token =
    subst (λ f. IsListFault text c.in_ok-expr.after 1 0 (codes "$.") f) c.in-Err-Shape.field-0-is c.in-Err-Shape.ensures.fault in
    rw c.in-Err-Shape.field-0-is (omega (arith, few, is.few, length-append expr (codes "$=" ∷ []), has.within, c.len.ensures))

pub returns-in-Err-Shape-clause-fault : goal.returns-in-Err-Shape-clause-fault
returns-in-Err-Shape-clause-fault c =
    let text = c.args.text.now in
    let expr = c.in_ok-expr.ensures in
    let is : HasBrokenList text c.in_ok-expr.after 1 0 (codes "$.") c.in-Err-Shape.token =
    subst (λ f. IsListFault text c.in_ok-expr.after 1 0 (codes "$.") f) c.in-Err-Shape.field-0-is c.in-Err-Shape.ensures.fault in
    rw (c.in-Err-Shape.field-0-is, c.len.ensures)
    (proof_fault text c.args.at c.args.label.now c.requires.label c.in_ok-expr.expr expr.symbols expr.many expr.between c.in-Err-Shape.token is)

pub returns-in-Err-Text-clause-fault : goal.returns-in-Err-Text-clause-fault
returns-in-Err-Text-clause-fault c =
    let text = c.args.text.now in
    let expr = c.in_ok-expr.ensures in
    let is : IsCommentFaultAfter text c.in_ok-expr.after c.in-Err-Text.fault =
    subst (λ f. IsListFault text c.in_ok-expr.after 1 0 (codes "$.") f) c.in-Err-Text.field-0-is c.in-Err-Text.ensures.fault in
    rw c.in-Err-Text.field-0-is (stops_after expr.between c.in-Err-Text.fault is)
