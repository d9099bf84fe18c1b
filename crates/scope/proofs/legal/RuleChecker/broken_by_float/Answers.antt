use Rattle.scope.proofs.Words.{◌≡◌, ◌∙◌, ap, sym, subst, not, ◌||◌, true, Name, was_symbol, was_label, IsSort}
use Rattle.scope.proofs.LegalLemmas.{float-sorts}
use Rattle.scope.proofs.legal.RuleChecker.broken_by_float.Goals as goal

pub returns-clause-rule : goal.returns-clause-rule
returns-clause-rule c =
    let S = c.args.self.now.statements in let l = c.args.label.now in let k = c.args.constant.now in let v = c.args.variable.now in
    let new : not (was_symbol S l || was_label S l) ≡ true = ap (λ x. not (was_symbol S x || was_label S x)) (sym c.as_bytes.ensures.bytes) ∙ (sym c.is_undeclared.ensures ∙ c.if-not-is_undeclared.false) in
    c.broken_by_sorts.ensures
    ∙ sym (float-sorts S l k v c.sort_and_record-first.result c.sort_and_record-second.result new
    (subst (λ (x : Name). IsSort S x c.sort_and_record-first.result) c.as_bytes-2.ensures.bytes c.sort_and_record-first.ensures.sort)
    (subst (λ (x : Name). IsSort S x c.sort_and_record-second.result) c.as_bytes-3.ensures.bytes c.sort_and_record-second.ensures.sort))
