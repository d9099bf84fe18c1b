use Rattle.scope.proofs.Words.{◌≡◌, ◌∙◌, sym, subst, refl, Database, IsRulesState}
use Rattle.scope.proofs.AcceptLemmas.{same-kept}
use Rattle.scope.proofs.rules.Rules.copy.Goals as goal

pub invariant_of-result : goal.invariant_of-result
invariant_of-result c =
    let a = c.self.inside in let S = a.accepted.statements in
    let same : S ≡ c.same.result.statements = sym c.same.ensures in
    let variables : a.variables ≡ c.in_ok-copy.field-0 = sym c.in_ok-copy.ensures in
    let typed : a.typed ≡ c.in_ok-copy-2.field-0 = sym c.in_ok-copy-2.ensures in
    let blocks : a.blocks.items ≡ c.in_ok-from_slice.field-0.items = sym (c.in_ok-from_slice.ensures.items ∙ c.as_slice.ensures.value) in
    same-kept same variables typed refl blocks
    (subst (λ (M : Database). IsRulesState S M a.variables a.typed a.frame_statement_count a.blocks.items a.mark) (sym c.same-2.ensures) c.self.invariant)
