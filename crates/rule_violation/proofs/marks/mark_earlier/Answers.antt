use Rattle.rule_violation.proofs.Words.{◌∙◌, sym, ap, arith, ◌+◌, drop, list_any, marked, has_name_in}
use Rattle.rule_violation.proofs.MarksLemmas.{marked-both, marked-none}
use Rattle.rule_violation.proofs.SearchLemmas.{rest_is, rest_empty}
use Rattle.rule_violation.proofs.marks.mark_earlier.Goals as goal

pub loop-i-preserved : goal.loop-i-preserved
loop-i-preserved c =
    let S = c.args.earlier.now in let p = c.args.role in let v = c.args.mark in let names = c.args.names.now in let i = c.loop-i.i in let s = c.index-earlier-i.result in
    ap (marked (λ x. list_any (has_name_in p x) (drop (i + 1) S)) v names) c.mark_stmt.ensures
    ∙ (marked-both (λ x. list_any (has_name_in p x) (drop (i + 1) S)) (λ x. has_name_in p x s) (λ x. list_any (has_name_in p x) (drop i S)) v
    (λ x. rest_is (has_name_in p x) S i s c.loop-i-test.true c.index-earlier-i.is) names c.loop-i.marks ∙ c.loop-i.invariant)

pub returns : goal.returns
returns c =
    let S = c.args.earlier.now in let p = c.args.role in let i = c.loop-i.i in
    sym (marked-none (λ x. list_any (has_name_in p x) (drop i S)) c.args.mark (λ x. rest_empty (has_name_in p x) S i (omega arith)) c.args.names.now c.loop-i.marks) ∙ c.loop-i.invariant
