use Rattle.scope.proofs.Words.{◌≡◌, ◌∙◌, ap, sym, subst, true, is_closed, active, IsRulesState, heights_of, Database}
use Rattle.scope.proofs.GoingBackLemmas.{kept-mark}
use Rattle.scope.proofs.rules.Rules.mark.Goals as goal

pub invariant_of-self : goal.invariant_of-self
invariant_of-self c =
    let a = c.self.inside in let S = a.accepted.statements in
    let closed : is_closed S ≡ true = ap (λ v. is_closed v.statements) c.self.view_is ∙ c.requires in
    subst (λ (M : Database). IsRulesState S M a.variables a.typed a.frame_statement_count a.blocks.items c.heights-self-inside.result) (sym c.same-self-inside.ensures)
    (kept-mark S a.marked.statements a.variables a.typed a.frame_statement_count a.blocks.items a.mark c.heights-self-inside.result closed
    (c.heights-self-inside.ensures ∙ ap (λ v. heights_of (active v.statements)) (sym c.self.view_is)) c.self.invariant)
